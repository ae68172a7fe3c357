-- Pairs whose keys are two keys, by the first key and a range of the second ones.
use Rattle.std.specs.Prelude.{ℕ, ◌&&◌, List, filter}
use Rattle.std.specs.declared.cmp.Ordering.{Ordering}
use Rattle.std.specs.declared.ops.Bound.{Bound}
use Rattle.art_parts.specs.Keys.{are_same}
use Rattle.art_keyed.specs.KeyedPairs.{is_key_from, is_key_up_to}

-- the pairs whose keys are two keys, the first of which has these bytes and the second of which is between two bounds
abbrev pub pairs_with_both : {A B V : Type 0} → (A → List ℕ) → List ℕ → (B → B → Ordering) → Bound B → Bound B → List ((A × B) × V) → List ((A × B) × V)
pairs_with_both bytes first order from to pairs =
    filter (λ pair. are_same first (bytes pair.0.0) && (is_key_from order from pair.0.1 && is_key_up_to order to pair.0.1)) pairs
