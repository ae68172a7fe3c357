-- Parts of a map: the pairs whose keys start with a prefix, and those between two bounds.
use Rattle.std.specs.Prelude.{ℕ, zero, suc, Bool, true, not, ◌&&◌, if◌then◌else◌, List, [], ◌∷◌, filter, map}
use Rattle.std.specs.declared.ops.Bound.{Bound}
use Rattle.std.specs.declared.ops.Bound.TheVariants.{Included, Excluded, Unbounded}
use Rattle.art_parts.specs.Keys.{is_before, is_front}
use Rattle.art_model.specs.Layouts.{entries_of}
use Rattle.art_model.specs.Trees.{Tree}

-- whether a key is after a lower bound, or at it where that is included
abbrev pub is_from : Bound (List ℕ) → List ℕ → Bool
is_from (Included bound) key = not (is_before key bound)
is_from (Excluded bound) key = is_before bound key
is_from Unbounded key = true

-- whether a key is before an upper bound, or at it where that is included
abbrev pub is_up_to : Bound (List ℕ) → List ℕ → Bool
is_up_to (Included bound) key = not (is_before bound key)
is_up_to (Excluded bound) key = is_before key bound
is_up_to Unbounded key = true

-- whether a key is between two bounds
abbrev pub is_between : Bound (List ℕ) → Bound (List ℕ) → List ℕ → Bool
is_between from to key = is_from from key && is_up_to to key

module _ {A : Type 0} (bytes : A → List ℕ) where
  -- the pairs whose keys start with this prefix
  abbrev pub below : List ℕ → List A → List A
  below prefix pairs = filter (λ x. is_front prefix (bytes x)) pairs

  -- the other pairs
  abbrev pub not_below : List ℕ → List A → List A
  not_below prefix pairs = filter (λ x. not (is_front prefix (bytes x))) pairs

  -- the pairs without the first so many of those whose keys start with this prefix
  abbrev pub without_below : List ℕ → ℕ → List A → List A
  without_below prefix zero pairs = pairs
  without_below prefix (suc n) [] = []
  without_below prefix (suc n) (x ∷ pairs) =
      if is_front prefix (bytes x) then without_below prefix n pairs else x ∷ without_below prefix (suc n) pairs

  -- the pairs whose keys are between two bounds
  abbrev pub between : Bound (List ℕ) → Bound (List ℕ) → List A → List A
  between from to pairs = filter (λ x. is_between from to (bytes x)) pairs

-- the names of the leaves whose pairs pass a test, in order
abbrev pub leaves_where : {N A : Type 0} → (A → Bool) → Tree N A → List N
leaves_where test tree = map (λ e. e.1) (filter (λ e. test e.0) (entries_of tree))
