-- Pairs whose keys never conflict: their order, and parts of them.
use Rattle.std.specs.Prelude.{◌≡◌, ℕ, Bool, true, false, not, ◌&&◌, if◌then◌else◌, List, [], ◌∷◌, filter, ⊤}
use Rattle.std.specs.List.{AllByRecursion as Each}
use Rattle.std.specs.Ordering.{is_lt}
use Rattle.std.specs.declared.cmp.Ordering.{Ordering}
use Rattle.std.specs.declared.cmp.Ordering.TheVariants.{Less}
use Rattle.std.specs.declared.ops.Bound.{Bound}
use Rattle.std.specs.declared.ops.Bound.TheVariants.{Included, Excluded, Unbounded}
use Rattle.art_parts.specs.Keys.{are_same, is_front}
use Rattle.art_model.specs.Pairs.{Pairwise, is_conflict, of_key}

module _ {K V : Type 0} where
  -- this holds for each key
  abbrev pub HaveKeys : (K → Type 0) → List (K × V) → Type 0
  HaveKeys is_key pairs = Each (λ pair. is_key pair.0) pairs

  -- the keys are strictly ascending in this order
  abbrev pub RiseBy : (K → K → Ordering) → List (K × V) → Type 0
  RiseBy order pairs = Pairwise (λ x y. order x.0 y.0 ≡ Less) pairs

  -- the pairs whose strings start with this one
  abbrev pub strings_below : (K → List ℕ) → List ℕ → List (K × V) → List (K × V)
  strings_below text prefix pairs = filter (λ pair. is_front prefix (text pair.0)) pairs

  -- the other pairs
  abbrev pub strings_not_below : (K → List ℕ) → List ℕ → List (K × V) → List (K × V)
  strings_not_below text prefix pairs = filter (λ pair. not (is_front prefix (text pair.0))) pairs

  -- the pairs whose strings are prefixes of this one, or equal to it; if the pairs are sorted, the first one has the
  -- shortest, and the last one the longest
  abbrev pub strings_in_front : (K → List ℕ) → List ℕ → List (K × V) → List (K × V)
  strings_in_front text string pairs = filter (λ pair. is_front (text pair.0) string) pairs

module _ {A B V : Type 0} where
  -- the pairs whose keys are two keys, the first of which has these bytes
  abbrev pub pairs_with_first : (A → List ℕ) → List ℕ → List ((A × B) × V) → List ((A × B) × V)
  pairs_with_first bytes first pairs = filter (λ pair. are_same first (bytes pair.0.0)) pairs

  -- the other pairs
  abbrev pub pairs_without_first : (A → List ℕ) → List ℕ → List ((A × B) × V) → List ((A × B) × V)
  pairs_without_first bytes first pairs = filter (λ pair. not (are_same first (bytes pair.0.0))) pairs

  -- the pairs without the first one of those whose first key has these bytes
  abbrev pub without_first_with : (A → List ℕ) → List ℕ → List ((A × B) × V) → List ((A × B) × V)
  without_first_with bytes first [] = []
  without_first_with bytes first (pair ∷ pairs) =
      if are_same first (bytes pair.0.0) then pairs else pair ∷ without_first_with bytes first pairs

-- the keys of a set that are two keys, the first of which has these bytes
abbrev pub set_with_first : {A B : Type 0} → (A → List ℕ) → List ℕ → List (A × B) → List (A × B)
set_with_first bytes first keys = filter (λ key. are_same first (bytes key.0)) keys

module _ {K : Type 0} where
  -- the keys of a set are strictly ascending in this order
  abbrev pub KeysRiseBy : (K → K → Ordering) → List K → Type 0
  KeysRiseBy order keys = Pairwise (λ a b. order a b ≡ Less) keys

  -- this holds for the key of a bound, if it has one
  abbrev pub OnBound : (K → Type 0) → Bound K → Type 0
  OnBound is_key (Included key) = is_key key
  OnBound is_key (Excluded key) = is_key key
  OnBound is_key Unbounded = ⊤

  -- whether a key is after a lower bound in this order, or at it if the bound is included
  abbrev pub is_key_from : (K → K → Ordering) → Bound K → K → Bool
  is_key_from order (Included bound) key = not (is_lt (order key bound))
  is_key_from order (Excluded bound) key = is_lt (order bound key)
  is_key_from order Unbounded key = true

  -- whether a key is before an upper bound in this order, or at it if the bound is included
  abbrev pub is_key_up_to : (K → K → Ordering) → Bound K → K → Bool
  is_key_up_to order (Included bound) key = not (is_lt (order bound key))
  is_key_up_to order (Excluded bound) key = is_lt (order key bound)
  is_key_up_to order Unbounded key = true

  -- the keys of a set that are between two bounds in this order
  abbrev pub set_between : (K → K → Ordering) → Bound K → Bound K → List K → List K
  set_between order from to keys = filter (λ key. is_key_from order from key && is_key_up_to order to key) keys

  -- the keys of a set whose strings start with this one
  abbrev pub set_below : (K → List ℕ) → List ℕ → List K → List K
  set_below text prefix keys = filter (λ key. is_front prefix (text key)) keys

-- the pairs whose keys are between two bounds in this order
abbrev pub keys_between : {K V : Type 0} → (K → K → Ordering) → Bound K → Bound K → List (K × V) → List (K × V)
keys_between order from to pairs = filter (λ pair. is_key_from order from pair.0 && is_key_up_to order to pair.0) pairs

-- no key of the type conflicts with keys of the type
abbrev pub IsNeverInConflict : {K : Type 0} (V : Type 0) → (K → Type 0) → (K → List ℕ) → Type 0
IsNeverInConflict {K} V is_key bytes =
    (key : K) (pairs : List (K × V)) → is_key key → HaveKeys is_key pairs →
    is_conflict (of_key bytes) (bytes key) pairs ≡ false
