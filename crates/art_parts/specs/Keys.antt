-- Keys are lists of bytes: which are prefixes of one another (`front`s in the names here, since nodes have prefixes too) or related, and their order.
use Rattle.std.specs.Prelude.{◌≡◌, ℕ, Bool, true, false, if◌then◌else◌, ◌==◌, ◌&&◌, ◌||◌, List, [], ◌∷◌, ◌++◌}
use Rattle.std.specs.Cmp.Lexicographic.{slice_cmp}
use Rattle.std.specs.Ordering.{nat_cmp, is_lt}

-- the whole is the prefix and then a rest, which may be empty
abbrev pub IsFront : List ℕ → List ℕ → Type 0
IsFront front whole = (rest : List ℕ) × (whole ≡ front ++ rest)

-- whether the first key is a prefix of the second
abbrev pub is_front : List ℕ → List ℕ → Bool
is_front [] whole = true
is_front (a ∷ front) [] = false
is_front (a ∷ front) (b ∷ whole) = a == b && is_front front whole

-- whether one of the keys is a prefix of the other, as equal keys are
abbrev pub are_related : List ℕ → List ℕ → Bool
are_related a b = is_front a b || is_front b a

-- whether the keys have the same bytes
abbrev pub are_same : List ℕ → List ℕ → Bool
are_same a b = is_front a b && is_front b a

-- whether the first key comes before the second: byte by byte, and a proper prefix first
abbrev pub is_before : List ℕ → List ℕ → Bool
is_before a b = is_lt (slice_cmp nat_cmp a b)

-- the first key comes before the second, and they are not related
abbrev pub Precedes : List ℕ → List ℕ → Type 0
Precedes a b = (is_before a b ≡ true) × (are_related a b ≡ false)

-- the longest prefix of both keys
abbrev pub common_front : List ℕ → List ℕ → List ℕ
common_front [] other = []
common_front (a ∷ «as») [] = []
common_front (a ∷ «as») (b ∷ bs) = if a == b then a ∷ common_front «as» bs else []

-- a clone of a key has the same bytes
abbrev pub KeepBytes : {K : Type 0} → (K → List ℕ) → (K → K → Type 0) → Type 0
KeepBytes {K} bytes is_clone = (x y : K) → is_clone x y → bytes y ≡ bytes x
