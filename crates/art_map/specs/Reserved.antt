-- A place for a key, and the nodes that its pair needs there. No public clause cites this module.
use Rattle.std.specs.Prelude.{◌≡◌, ◌<◌, ℕ, true, false, List, Option, Some, None}
use Rattle.std.specs.Box.{boxed_slice_items}
use Rattle.art_nodes.specs.Nodes.{Nodes}
use Rattle.art_parts.specs.declared.names.OpaqueNodePtr.{OpaqueNodePtr}
use Rattle.art_model.specs.Pairs.{has_key, is_conflict, of_key}
use Rattle.art_model.specs.Promises.{is_covered}
use Rattle.art_writing.specs.Inserted.{IsPointIn, placed_for}
use Rattle.art_writing.specs.declared.insert.InsertPoint.{InsertPoint}
use Rattle.art_writing.specs.declared.insert.InsertSearchError.{InsertSearchError}
use Rattle.art_writing.specs.declared.insert.InsertSearchError.TheVariants as searches
use Rattle.art_changing.specs.MapPairs.{pairs_at}
use Rattle.art_changing.specs.declared.insert.MapInsertError.{MapInsertError}
use Rattle.art_changing.specs.declared.insert.MapInsertError.TheVariants as errors

-- no stored key conflicts with this one, its place is known, and the nodes that its pair needs there are promised
abbrev pub IsReserved : {K V : Type 0} → (K → List ℕ) → ℕ → Nodes K V → Option OpaqueNodePtr → List ℕ → Option InsertPoint → Type 0
IsReserved bytes P s root key None = (root ≡ None) × (0 < s.promise.leaves)
IsReserved bytes P s root key (Some point) =
    (root ≡ Some point.root) × IsPointIn (of_key bytes) P s key point × (is_covered (placed_for s point.insert_kind) s.promise ≡ true) ×
    (is_conflict (of_key bytes) key (pairs_at s root) ≡ false)

-- why no place was reserved: a key conflicts, or an allocation failed and the key is not stored
abbrev pub IsUnreserved : {K V : Type 0} → (K → List ℕ) → List ℕ → List (K × V) → InsertSearchError → Type 0
IsUnreserved bytes key pairs (searches.Prefix error) =
    (boxed_slice_items error.byte_repr ≡ key) × (is_conflict (of_key bytes) key pairs ≡ true)
IsUnreserved bytes key pairs (searches.Memory error) = has_key (of_key bytes) key pairs ≡ false

-- the error of a search, with the pair
abbrev pub IsWithPair : {K V : Type 0} → K → V → InsertSearchError → MapInsertError K V → Type 0
IsWithPair key value (searches.Prefix error) told = told ≡ errors.Conflict key value error
IsWithPair key value (searches.Memory error) told = told ≡ errors.Memory key value
