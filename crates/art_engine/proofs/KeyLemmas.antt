-- The parts of a key's word.
use Rattle.std.proofs.Common.{◌≡◌, ℕ, ◌<◌, ◌^◌, ◌⊎◌, inl, inr, List, [], ◌∷◌, length, map, refl, ap, sym, ◌∙◌, subst, arith, Bool, eqb, codes}
use Rattle.std.specs.List.{All, slice_split, join_with_byte}
use Rattle.std.specs.Fmt.{decimal}
use Rattle.std.proofs.lemmas.List.Elements.{All-head, All-tail, All-cons, All-map, All-weaker}
use Rattle.std.proofs.lemmas.List.Splits.{slice_split_none, slice_split_at, length-slice_split, join_with_byte-slice_split}
use Rattle.art_engine.specs.KeyTexts.{IsByteWord, AreBytes, IsKeyWord, key_word}
use Rattle.art_engine.proofs.Decimals.{decimal_undotted}

abbrev is_dot : ℕ → Bool
is_dot c = eqb c 46

-- the bytes that words write
bytes_of : (words : List (List ℕ)) → All IsByteWord words → (key : List ℕ) × AreBytes key × (words ≡ map decimal key)
bytes_of [] all = ([], (λ k d below. absurd (omega arith)), refl)
bytes_of (w ∷ ws) all =
    let (b, small, is) = All-head IsByteWord w ws all in
    let (bs, smalls, are) = bytes_of ws (All-tail IsByteWord w ws all) in
    (b ∷ bs, All-cons (λ n. n < 2 ^ 8) b bs small smalls, cc)

-- words of bytes, joined by dots, are a key's word
key_joined : (words : List (List ℕ)) → 0 < length words → All IsByteWord words → IsKeyWord (join_with_byte 46 words)
key_joined [] some all = absurd (omega arith)
key_joined (w ∷ ws) some all = named (bytes_of (w ∷ ws) all)
  where
    named : (key : List ℕ) × AreBytes key × (w ∷ ws ≡ map decimal key) → IsKeyWord (join_with_byte 46 (w ∷ ws))
    named ([], small, is) = let no : ⊥ = cc in absurd no
    named (b ∷ bs, small, is) = (b ∷ bs, small, ap (join_with_byte 46) is)

pub key_from_words : (word : List ℕ) → All IsByteWord (slice_split (λ c. eqb c 46) word) → IsKeyWord word
key_from_words word all =
    subst IsKeyWord (join_with_byte-slice_split 46 word) (key_joined (slice_split is_dot word) (omega (arith, length-slice_split is_dot word)) all)

-- the parts between the dots are the words that were joined
parts_of : (b : ℕ) (bs : List ℕ) → AreBytes (b ∷ bs) → slice_split is_dot (join_with_byte 46 (map decimal (b ∷ bs))) ≡ map decimal (b ∷ bs)
parts_of b [] small = slice_split_none is_dot (decimal b) (decimal_undotted b (small 0 0 (omega arith)))
parts_of b (c ∷ cs) small =
    slice_split_at is_dot (decimal b) 46 (join_with_byte 46 (map decimal (c ∷ cs))) (decimal_undotted b (small 0 0 (omega arith))) refl
    ∙ ap (λ ws. decimal b ∷ ws) (parts_of c cs (All-tail (λ n. n < 2 ^ 8) b (c ∷ cs) small))

are_words : (bs : List ℕ) → AreBytes bs → All IsByteWord (map decimal bs)
are_words bs small = All-map IsByteWord decimal bs (All-weaker (λ n. n < 2 ^ 8) (λ n. IsByteWord (decimal n)) (λ n h. (n, h, refl)) bs small)

pub words_from_key : (word : List ℕ) → IsKeyWord word → (word ≡ codes "-") ⊎ All IsByteWord (slice_split (λ c. eqb c 46) word)
words_from_key word ([], small, is) = inl is
words_from_key word (b ∷ bs, small, is) = inr (subst (All IsByteWord) (sym (ap (slice_split is_dot) is ∙ parts_of b bs small)) (are_words (b ∷ bs) small))

-- a word whose parts write these bytes is the word of the key of these bytes
pub key_of_parts : (word bs : List ℕ) → slice_split (λ c. eqb c 46) word ≡ map decimal bs → word ≡ key_word bs
key_of_parts word [] are = absurd (omega (arith, length-slice_split is_dot word, ap length are))
key_of_parts word (b ∷ bs) are = sym (join_with_byte-slice_split 46 word) ∙ ap (join_with_byte 46) are
