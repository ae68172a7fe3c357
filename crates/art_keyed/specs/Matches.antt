-- The strings of a map that are prefixes of a query, as an iterator returns them from both ends.
use Rattle.std.specs.Prelude.{ℕ, List, [], Option, Some, None}
use Rattle.art_model.specs.Pairs.{of_key}
use Rattle.art_ranges.specs.ShortTexts.{texts_from}

-- the pairs whose texts are prefixes of the query and have at least so many bytes; none without a query
abbrev pub matches_left : {K V : Type 0} → (K → List ℕ) → Option (List ℕ) → ℕ → List (K × V) → List (K × V)
matches_left bytes None at_least pairs = []
matches_left bytes (Some query) at_least pairs = texts_from (of_key bytes) query at_least pairs
