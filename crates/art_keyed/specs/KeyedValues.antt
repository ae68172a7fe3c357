-- The values of a map's keys after a change.
use Rattle.std.specs.Prelude.{◌≡◌, ◌≢◌, ◌+◌, ℕ, List, length, Option, Some, None}
use Rattle.art_changing.specs.MapAnswers.{value_at}

module _ {K V : Type 0} where
  -- the value of a key
  abbrev pub value_of : (K → List ℕ) → K → List (K × V) → Option V
  value_of bytes key pairs = value_at bytes (bytes key) pairs

  -- each other key has the same value as before
  abbrev pub KeepsOtherKeys : (K → Type 0) → (K → List ℕ) → K → List (K × V) → List (K × V) → Type 0
  KeepsOtherKeys is_key bytes key old new =
      (other : K) → is_key other → other ≢ key → value_of bytes other new ≡ value_of bytes other old

  -- there is one pair more if none was replaced, and else as many as before
  abbrev pub CountsPut : Option (K × V) → List (K × V) → List (K × V) → Type 0
  CountsPut None old new = length new ≡ length old + 1
  CountsPut (Some replaced) old new = length new ≡ length old

  -- there is one pair less if one was removed, and else as many as before
  abbrev pub CountsRemoved : Option (K × V) → List (K × V) → List (K × V) → Type 0
  CountsRemoved None old new = length new ≡ length old
  CountsRemoved (Some removed) old new = length new + 1 ≡ length old
