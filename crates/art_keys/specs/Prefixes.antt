-- The laws of key types: keys never conflict, and their bytes are in the order of the type.
use Rattle.std.specs.Prelude.{◌≡◌, ◌++◌, [], ◌∷◌, ℕ, List}
use Rattle.std.specs.Cmp.Lexicographic.{slice_cmp}
use Rattle.std.specs.Ordering.{nat_cmp}
use Rattle.std.specs.declared.cmp.Ordering.{Ordering}
use Rattle.art_keys.specs.Ended.{HasNoZero}
use Rattle.art_parts.specs.Keys.{IsFront, is_front}

module _ {K : Type 0} (is_key : K → Type 0) (bytes : K → List ℕ) where
  -- a key whose bytes are a prefix of another's has the same bytes
  abbrev pub HasNoPrefixes : Type 0
  HasNoPrefixes = (a b : K) → is_key a → is_key b → IsFront (bytes a) (bytes b) → bytes a ≡ bytes b

  -- keys with the same bytes are equal
  abbrev pub AreInjective : Type 0
  AreInjective = (a b : K) → is_key a → is_key b → bytes a ≡ bytes b → a ≡ b

  -- the bytes of keys compare as the keys do
  abbrev pub KeepsOrder : (K → K → Ordering) → Type 0
  KeepsOrder order = (a b : K) → is_key a → is_key b → slice_cmp nat_cmp (bytes a) (bytes b) ≡ order a b

  -- these bytes are a prefix of those of a key exactly if this key's string is a prefix of the other's
  abbrev pub BeginsAs : (K → List ℕ) → K → List ℕ → Type 0
  BeginsAs text key beginning = (other : K) → is_key other → is_front beginning (bytes other) ≡ is_front (text key) (text other)

  -- the bytes of a key are those of its string, which have no zero, and then a zero
  abbrev pub IsInside : (K → List ℕ) → (List ℕ → List ℕ) → Type 0
  IsInside text inside = (key : K) → is_key key → (bytes key ≡ inside (text key) ++ 0 ∷ []) × HasNoZero (inside (text key))

-- the bytes of a string are a prefix of those of another one exactly if the string is a prefix of the other one
abbrev pub KeepsFronts : (List ℕ → List ℕ) → Type 0
KeepsFronts inside = (a b : List ℕ) → is_front (inside a) (inside b) ≡ is_front a b

-- what holds for a key holds for its clones
abbrev pub IsKept : {K : Type 0} → (K → Type 0) → (K → K → Type 0) → Type 0
IsKept {K} is_key is_clone = (x y : K) → is_clone x y → is_key x → is_key y
