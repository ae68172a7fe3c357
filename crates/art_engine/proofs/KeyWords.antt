-- The word of a key has no space.
use Rattle.std.proofs.Common.{◌≢◌, ℕ, ◌<◌, ◌^◌, List, [], ◌∷◌, map, sym, subst, arith}
use Rattle.std.specs.List.{join_with_byte}
use Rattle.std.specs.Fmt.{decimal}
use Rattle.std.proofs.lemmas.List.Elements.{All-head, All-tail, All-cons, All-append}
use Rattle.art_engine.specs.KeyTexts.{AreBytes, IsKeyWord}
use Rattle.text_lines.proofs.Spaces.{HasNoSpace}
use Rattle.art_engine.proofs.Decimals.{decimal_without}

joined_spaceless : (b : ℕ) (bs : List ℕ) → AreBytes (b ∷ bs) → HasNoSpace (join_with_byte 46 (map decimal (b ∷ bs)))
joined_spaceless b [] small = decimal_without 32 b (λ h. omega (arith, h)) (All-head (λ n. n < 2 ^ 8) b [] small)
joined_spaceless b (c ∷ cs) small =
    All-append (λ z. z ≢ 32) (decimal b) (46 ∷ join_with_byte 46 (map decimal (c ∷ cs)))
    (decimal_without 32 b (λ h. omega (arith, h)) (All-head (λ n. n < 2 ^ 8) b (c ∷ cs) small))
    (All-cons (λ z. z ≢ 32) 46 (join_with_byte 46 (map decimal (c ∷ cs))) (λ e. omega (arith, e))
    (joined_spaceless c cs (All-tail (λ n. n < 2 ^ 8) b (c ∷ cs) small)))

pub key_spaceless : (word : List ℕ) → IsKeyWord word → HasNoSpace word
key_spaceless word ([], small, is) = subst HasNoSpace (sym is) (All-cons (λ z. z ≢ 32) 45 [] (λ e. omega (arith, e)) (λ k d below. absurd (omega arith)))
key_spaceless word (b ∷ bs, small, is) = subst HasNoSpace (sym is) (joined_spaceless b bs small)
