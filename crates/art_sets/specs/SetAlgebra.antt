-- Unions, intersections and differences of two sets, as lists of their keys.
use Rattle.std.specs.Prelude.{◌≡◌, ℕ, ◌+◌, Option, Some, Bool, true, false, cond, not, List, filter}
use Rattle.std.specs.List.{list_all, list_any}
use Rattle.std.specs.Cmp.Lexicographic.{slice_cmp}
use Rattle.std.specs.Ordering.{nat_cmp}
use Rattle.std.specs.Set.{sorted_merge}
use Rattle.std.specs.declared.cmp.Ordering.{Ordering}
use Rattle.art_model.specs.Pairs.{has_key}

-- the keys that pass a test, or those that don't
abbrev pub selected : {K : Type 0} → (K → Bool) → Bool → List K → List K
selected test wanted keys = filter (λ k. cond wanted (test k) (not (test k))) keys

module _ {K : Type 0} (bytes : K → List ℕ) where
  -- the order of two keys is that of their bytes
  abbrev pub byte_order : K → K → Ordering
  byte_order a b = slice_cmp nat_cmp (bytes a) (bytes b)

  -- whether a set has a key with the bytes of this one
  abbrev pub has_equal : List K → K → Bool
  has_equal keys k = has_key bytes (bytes k) keys

  -- the keys of the first set that the second one has
  abbrev pub intersection : List K → List K → List K
  intersection keys others = filter (has_equal others) keys

  -- the keys of the first set that the second one lacks
  abbrev pub difference : List K → List K → List K
  difference keys others = filter (λ k. not (has_equal others k)) keys

  -- the keys of both sets in order; of two equal keys the first set's
  abbrev pub union : List K → List K → List K
  union keys others = sorted_merge byte_order true keys others

  -- the keys that exactly one of the sets has, in order
  abbrev pub symmetric_difference : List K → List K → List K
  symmetric_difference keys others = sorted_merge byte_order false keys others

  -- whether each key of the first set is in the second
  abbrev pub is_subset : List K → List K → Bool
  is_subset keys others = list_all (has_equal others) keys

  -- whether no key of the first set is in the second
  abbrev pub is_disjoint : List K → List K → Bool
  is_disjoint keys others = not (list_any (has_equal others) keys)

-- both numbers exist, and this is their sum
abbrev pub IsSum : Option ℕ → Option ℕ → ℕ → Type 0
IsSum a b sum = (n : ℕ) × (m : ℕ) × (a ≡ Some n) × (b ≡ Some m) × (sum ≡ n + m)
