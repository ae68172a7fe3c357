-- What holds of the ends of a tree: `minimum_unchecked` names the leaf of the point that `find_minimum_to_delete` returns, and `maximum_unchecked` that of `find_maximum_to_delete`.
use Rattle.std.specs.Prelude.{◌≡◌, ℕ, List, Some}
use Rattle.art_nodes.specs.Nodes.{Nodes}
use Rattle.art_parts.specs.Names.{leaf_name}
use Rattle.art_parts.specs.declared.names.LeafPtr.{LeafPtr}
use Rattle.art_parts.specs.declared.names.OpaqueNodePtr.{OpaqueNodePtr}
use Rattle.art_model.specs.Lookups.{HasFirstLeaf, HasLastLeaf}
use Rattle.art_model.specs.Pairs.{first_of, last_of}
use Rattle.art_model.specs.Roots.{ForTree, IsCanonicalRoot, IsFullTree}
use Rattle.art_model.specs.Trees.{Tree}
use Rattle.art_writing.specs.Deleted.{IsDeletePoint}
use Rattle.art_writing.specs.declared.delete.DeletePoint.{DeletePoint}

module _ (K V : Type 0) where
  -- what names the first leaf names that of the first pair's point
  abbrev pub FirstLeafHasFirstPoint : Type 0
  FirstLeafHasFirstPoint =
      (bytes : K × V → List ℕ) (P : ℕ) (s : Nodes K V) (root : OpaqueNodePtr) (leaf : LeafPtr) (point : DeletePoint) →
      IsCanonicalRoot bytes P s root →
      ((layout : Tree OpaqueNodePtr (K × V)) → IsFullTree s root layout → HasFirstLeaf layout (leaf_name leaf)) →
      ForTree bytes P s root (λ pairs layout. IsDeletePoint layout (first_of pairs) (Some point)) →
      point.leaf_node_ptr ≡ leaf

  -- the same of the last leaf and the last pair
  abbrev pub LastLeafHasLastPoint : Type 0
  LastLeafHasLastPoint =
      (bytes : K × V → List ℕ) (P : ℕ) (s : Nodes K V) (root : OpaqueNodePtr) (leaf : LeafPtr) (point : DeletePoint) →
      IsCanonicalRoot bytes P s root →
      ((layout : Tree OpaqueNodePtr (K × V)) → IsFullTree s root layout → HasLastLeaf layout (leaf_name leaf)) →
      ForTree bytes P s root (λ pairs layout. IsDeletePoint layout (last_of pairs) (Some point)) →
      point.leaf_node_ptr ≡ leaf
