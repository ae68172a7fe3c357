-- The longest key of a list of pairs.
use Rattle.std.specs.Prelude.{ℕ, List, [], ◌∷◌, length, max}

-- the length of the longest key; 0 if there is no key
abbrev pub longest : {A : Type 0} → (A → List ℕ) → List A → ℕ
longest bytes [] = 0
longest bytes (x ∷ xs) = max (length (bytes x)) (longest bytes xs)
