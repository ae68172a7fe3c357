-- Pairs that are removed from a map, by the bounds of their keys or one by one, or moved into another map.
use Rattle.std.specs.Prelude.{◌≡◌, ℕ, not, List, ◌∷◌, ◌++◌, filter, Option, Some, None}
use Rattle.std.specs.declared.ops.Bound.{Bound}
use Rattle.art_parts.specs.Keys.{is_before}
use Rattle.art_model.specs.Pairs.{remove_key}
use Rattle.art_model.specs.Parts.{is_between}
use Rattle.art_changing.specs.MapAnswers.{IsRefusalOf}
use Rattle.art_map.specs.MapCalls.{put_all}
use Rattle.art_changing.specs.declared.insert.MapInsertError.{MapInsertError}

module _ {A : Type 0} (bytes : A → List ℕ) where
  -- the pairs whose keys are not between two bounds
  abbrev pub not_between : Bound (List ℕ) → Bound (List ℕ) → List A → List A
  not_between from to pairs = filter (λ x. not (is_between from to (bytes x))) pairs

  -- the pairs whose keys are before this one
  abbrev pub keys_before : List ℕ → List A → List A
  keys_before key pairs = filter (λ x. is_before (bytes x) key) pairs

  -- the pairs with this key and those after it
  abbrev pub keys_from : List ℕ → List A → List A
  keys_from key pairs = filter (λ x. not (is_before (bytes x) key)) pairs

  -- the pairs without the one that was removed, if there was one
  abbrev pub without : Option A → List A → List A
  without None pairs = pairs
  without (Some x) pairs = remove_key bytes (bytes x) pairs

module _ {K V : Type 0} (bytes : K → List ℕ) where
  -- some of the given pairs were put, in order; the next one was rejected, and the others are left
  abbrev pub PutsSome : List (K × V) → List (K × V) → MapInsertError K V → List (K × V) → List (K × V) → Type 0
  PutsSome before given error after left =
      (xs : List (K × V)) × (x : K × V) × (given ≡ xs ++ x ∷ left) × (after ≡ put_all bytes xs before) × IsRefusalOf bytes x.0 x.1 after error
