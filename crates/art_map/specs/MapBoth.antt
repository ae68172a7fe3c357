-- Two pairs that were inserted into two maps, or neither.
use Rattle.std.specs.Prelude.{◌≡◌, ℕ, List}
use Rattle.art_changing.specs.MapAnswers.{IsRefusalOf}
use Rattle.art_map.specs.declared.map.both.BothInsertError.{BothInsertError}
use Rattle.art_map.specs.declared.map.both.BothInsertError.TheVariants.{First, Second}

-- both pairs are returned, one of them in the error of its map
abbrev pub IsRefusalOfBoth : {K V L W : Type 0} → (K → List ℕ) → (L → List ℕ) → K × V → List (K × V) → L × W → List (L × W) → BothInsertError K V L W → Type 0
IsRefusalOfBoth bytes other_bytes pair pairs other others (First error back) =
    IsRefusalOf bytes pair.0 pair.1 pairs error × (back ≡ other)
IsRefusalOfBoth bytes other_bytes pair pairs other others (Second back error) =
    (back ≡ pair) × IsRefusalOf other_bytes other.0 other.1 others error
