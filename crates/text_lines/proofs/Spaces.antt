-- Words of a line: the first space separates the first word from the rest.
use Rattle.std.proofs.Common.{◌≡◌, ◌≢◌, ℕ, List, [], ◌∷◌, ◌++◌, refl}
use Rattle.std.specs.List.{All}
use Rattle.std.proofs.lemmas.List.Elements.{All-head, All-tail}

-- no byte is a space
abbrev pub HasNoSpace : List ℕ → Type 0
HasNoSpace = All (λ c. c ≢ 32)

pub has_space : (a b : List ℕ) → HasNoSpace (a ++ 32 ∷ b) → ⊥
has_space [] b none = All-head (λ c. c ≢ 32) 32 b none refl
has_space (x ∷ a) b none = has_space a b (All-tail (λ c. c ≢ 32) x (a ++ 32 ∷ b) none)

pub same_words : (a b c d : List ℕ) → HasNoSpace a → HasNoSpace c → a ++ 32 ∷ b ≡ c ++ 32 ∷ d → (a ≡ c) × (b ≡ d)
same_words [] b [] d ha hc e = (refl, cc)
same_words [] b (x ∷ c) d ha hc e = absurd (All-head (λ z. z ≢ 32) x c hc (cc))
same_words (x ∷ a) b [] d ha hc e = absurd (All-head (λ z. z ≢ 32) x a ha (cc))
same_words (x ∷ a) b (y ∷ c) d ha hc e =
    let rest : a ++ 32 ∷ b ≡ c ++ 32 ∷ d = cc in
    let both = same_words a b c d (All-tail (λ z. z ≢ 32) x a ha) (All-tail (λ z. z ≢ 32) y c hc) rest in
    (cc, both.1)
