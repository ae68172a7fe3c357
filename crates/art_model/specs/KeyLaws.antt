-- Laws of keys: what the tests decide, and the order of keys.
use Rattle.std.specs.Prelude.{◌≡◌, ℕ, ◌<◌, ◌⊎◌, true, false, List, ◌∷◌, ◌++◌}
use Rattle.std.specs.Bool.{Decides}
use Rattle.art_parts.specs.Keys.{IsFront, is_front, are_related, are_same, is_before, common_front}

-- the second key continues the first
abbrev pub IsProperFront : List ℕ → List ℕ → Type 0
IsProperFront a b = (byte : ℕ) × (rest : List ℕ) × (b ≡ a ++ byte ∷ rest)

-- after a common prefix the first key has the smaller byte
abbrev pub HasSmallerByte : List ℕ → List ℕ → Type 0
HasSmallerByte a b =
    (front : List ℕ) × (x y : ℕ) × (r s : List ℕ) × (a ≡ front ++ x ∷ r) × (b ≡ front ++ y ∷ s) × (x < y)

abbrev pub FrontsAreDecided : Type 0
FrontsAreDecided = (a b : List ℕ) → Decides (is_front a b) (IsFront a b)

abbrev pub RelationIsDecided : Type 0
RelationIsDecided = (a b : List ℕ) → Decides (are_related a b) (IsFront a b ⊎ IsFront b a)

abbrev pub SamenessIsDecided : Type 0
SamenessIsDecided = (a b : List ℕ) → Decides (are_same a b) (a ≡ b)

abbrev pub OrderIsDecided : Type 0
OrderIsDecided = (a b : List ℕ) → Decides (is_before a b) (IsProperFront a b ⊎ HasSmallerByte a b)

-- no key is before itself
abbrev pub OrderIsStrict : Type 0
OrderIsStrict = (a : List ℕ) → is_before a a ≡ false

abbrev pub OrderIsTransitive : Type 0
OrderIsTransitive = (a b c : List ℕ) → is_before a b ≡ true → is_before b c ≡ true → is_before a c ≡ true

-- of two keys one is before the other, or they are equal
abbrev pub OrderIsTotal : Type 0
OrderIsTotal = (a b : List ℕ) → (is_before a b ≡ true) ⊎ ((a ≡ b) ⊎ (is_before b a ≡ true))

-- the shared part is a prefix of both keys, and every other such prefix is a prefix of it
abbrev pub CommonFrontIsLongest : Type 0
CommonFrontIsLongest =
    (a b : List ℕ) → IsFront (common_front a b) a × IsFront (common_front a b) b ×
    ((front : List ℕ) → IsFront front a → IsFront front b → IsFront front (common_front a b))
