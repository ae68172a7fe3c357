-- Pairs that leave a map whose keys never conflict.
use Rattle.std.specs.Prelude.{◌≡◌, ℕ, not, ◌&&◌, false, List, ◌∷◌, ◌++◌, filter}
use Rattle.std.specs.declared.cmp.Ordering.{Ordering}
use Rattle.std.specs.declared.ops.Bound.{Bound}
use Rattle.art_model.specs.Pairs.{has_key, of_key}
use Rattle.art_map.specs.MapCalls.{put_all}
use Rattle.art_keyed.specs.KeyedPairs.{is_key_from, is_key_up_to}
use Rattle.art_writing.specs.declared.insert.PairRefused.{PairRefused}

-- the pairs whose keys are not between two bounds in this order
abbrev pub keys_not_between : {K V : Type 0} → (K → K → Ordering) → Bound K → Bound K → List (K × V) → List (K × V)
keys_not_between order from to pairs = filter (λ pair. not (is_key_from order from pair.0 && is_key_up_to order to pair.0)) pairs

module _ {K V : Type 0} (bytes : K → List ℕ) where
  -- the first of the given pairs were inserted, in their order; the error returns the next one, whose key is not
  -- stored, and the others are left
  abbrev pub PutsSomeOf : List (K × V) → List (K × V) → PairRefused K V → List (K × V) → List (K × V) → Type 0
  PutsSomeOf before given refused after left =
      (xs : List (K × V)) × (given ≡ xs ++ (refused.key, refused.value) ∷ left) × (after ≡ put_all bytes xs before) ×
      (has_key (of_key bytes) (bytes refused.key) after ≡ false)

-- the keys of a set that are not between two bounds in this order
abbrev pub set_not_between : {K : Type 0} → (K → K → Ordering) → Bound K → Bound K → List K → List K
set_not_between order from to keys = filter (λ key. not (is_key_from order from key && is_key_up_to order to key)) keys
