-- What applied points leave, with the resulting tree.
use Rattle.std.specs.Prelude.{◌≡◌, ℕ, List, Some}
use Rattle.std.specs.Option.{option_map}
use Rattle.art_model.specs.Prelude.{Nodes, OpaqueNodePtr, IsCanonicalTree, ChangesInPlace, overwrite, overwrite_reply, put, put_reply, stored_for, Tree, Frame}
use Rattle.art_writing.specs.Inserted.{HasInserted, IsBelow, Touches, unlinked_leaf}
use Rattle.art_writing.specs.Overwritten.{HasOverwritten, TouchesForNode}
use Rattle.art_writing.specs.declared.insert.InsertPoint.{InsertPoint}
use Rattle.art_writing.specs.declared.insert.InsertResult.{InsertResult}
use Rattle.art_writing.specs.declared.insert.OverwritePoint.{OverwritePoint}
use Rattle.art_writing.specs.declared.insert.PrefixInsertResult.{PrefixInsertResult}

-- The root is canonical for the pairs with the new one; an equal stored key's old value is returned, as a leaf with no siblings; the rest stays.
pub record IsInserted {K V : Type 0} (bytes : K × V → List ℕ) (P : ℕ) (s t : Nodes K V) (point : InsertPoint)
    (pair : K × V) (pairs : List (K × V))
    (layout : Tree OpaqueNodePtr (K × V)) (up : List (Frame OpaqueNodePtr (K × V))) (done : InsertResult K V) : Type 0 where
  pub tree : Tree OpaqueNodePtr (K × V)
  pub canonical : IsCanonicalTree bytes P t done.new_root (put bytes pair pairs) tree
  pub inserted : HasInserted tree point (stored_for bytes pair pairs) done
  pub below : IsBelow up tree pair done.leaf_node_ptr done.parent_node_change
  pub replaced : done.existing_leaf ≡ option_map unlinked_leaf (put_reply bytes pair pairs)
  pub kept : ChangesInPlace bytes s t (Some layout) (Some tree)
  pub touches : Touches point.insert_kind s t

-- The root is canonical for the pairs with the new one, which replaces all with related keys; the result has what was replaced; the rest stays.
pub record IsOverwritten {K V : Type 0} (bytes : K × V → List ℕ) (P : ℕ) (s t : Nodes K V)
    (point : OverwritePoint) (pair : K × V)
    (pairs : List (K × V)) (layout : Tree OpaqueNodePtr (K × V)) (done : PrefixInsertResult K V) : Type 0 where
  pub tree : Tree OpaqueNodePtr (K × V)
  pub canonical : IsCanonicalTree bytes P t done.insert_result.new_root (overwrite bytes pair pairs) tree
  pub leaf : HasOverwritten tree point pair done.insert_result
  pub existing : done.insert_result.existing_leaf ≡ option_map unlinked_leaf (overwrite_reply bytes pair pairs).0
  pub removed : done.leafs_removed ≡ (overwrite_reply bytes pair pairs).1
  pub kept : ChangesInPlace bytes s t (Some layout) (Some tree)
  pub touches : TouchesForNode point.overwrite_point.kind bytes (bytes pair) s t layout
