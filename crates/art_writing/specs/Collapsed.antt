-- What private functions leave that remove a node with its whole subtree: the tree with one leaf in the node's place, and then without it. No public clause cites this module.
use Rattle.std.specs.Prelude.{◌≡◌, ◌⊎◌, ℕ, List, [], ◌∷◌, ◌++◌, length, Some, IfSome}
use Rattle.art_nodes.specs.Nodes.{Nodes}
use Rattle.art_parts.specs.Names.{leaf_name}
use Rattle.art_parts.specs.declared.names.OpaqueNodePtr.{OpaqueNodePtr}
use Rattle.art_model.specs.Canonical.{IsCanonical, IsCanonicalTree}
use Rattle.art_model.specs.Footprints.{IsIn}
use Rattle.art_model.specs.Layouts.{names_of}
use Rattle.art_model.specs.Kept.{ChangesInPlace}
use Rattle.art_model.specs.Pairs.{first_of}
use Rattle.art_model.specs.Paths.{Frame, plug, pairs_before, pairs_after}
use Rattle.art_model.specs.Radix.{pairs_of}
use Rattle.art_model.specs.Roots.{ForRoot, ForTree, IsCanonicalRoot}
use Rattle.art_model.specs.Trees.{Tree, leaf}
use Rattle.art_reading.specs.PathSteps.{path_of}
use Rattle.art_writing.specs.Deleted.{parent_change}
use Rattle.art_writing.specs.SubtreePoints.{LeadsToNode, pairs_beside}
use Rattle.art_writing.specs.declared.delete.subtree.Collapsed.{Collapsed}
use Rattle.art_writing.specs.declared.delete.subtree.SubtreeDeletePoint.{SubtreeDeletePoint}
use Rattle.art_writing.specs.declared.delete.subtree.SubtreeDeleteResult.{SubtreeDeleteResult}

-- The first leaf below the node at the end of the path replaces the node, and the others are freed.
pub record IsCollapsed {K V : Type 0} (bytes : K × V → List ℕ) (P : ℕ) (s t : Nodes K V) (root : OpaqueNodePtr)
    (path : List (Frame OpaqueNodePtr (K × V))) (node : Tree OpaqueNodePtr (K × V)) (done : Collapsed) : Type 0 where
  pub first : K × V
  pub first_is : first_of (pairs_of node) ≡ Some first
  pub canonical : IsCanonicalTree bytes P t done.root (pairs_before path ++ (first ∷ []) ++ pairs_after path)
      (plug path (leaf (leaf_name done.leaf) first))
  pub kept : ChangesInPlace bytes s t (Some (plug path node)) (Some (plug path (leaf (leaf_name done.leaf) first)))
  pub fewer : (name : OpaqueNodePtr) → IsIn name (names_of (plug path (leaf (leaf_name done.leaf) first))) → IsIn name (names_of (plug path node))
  pub stays_or_goes : (name : OpaqueNodePtr) → IsIn name (names_of (plug path node)) →
      IsIn name (names_of (plug path (leaf (leaf_name done.leaf) first))) ⊎ (IsIn name (names_of (plug path (leaf (leaf_name done.leaf) first))) → ⊥)
  pub count : done.count ≡ length (pairs_of node)
  pub parent : parent_change t (path_of path) ≡ parent_change s (path_of path)

-- The point's node is removed from the tree, with its whole subtree.
pub record IsSubtreeTaken {K V : Type 0} (bytes : K × V → List ℕ) (P : ℕ) (s t : Nodes K V) (root : OpaqueNodePtr)
    (point : SubtreeDeletePoint) (done : SubtreeDeleteResult) : Type 0 where
  pub canonical : ForTree bytes P s root (λ pairs layout. (at : LeadsToNode layout point) →
      IsCanonical bytes P t done.new_root (pairs_beside at))
  pub left : IfSome done.new_root (IsCanonicalRoot bytes P t)
  pub removed : ForTree bytes P s root (λ pairs layout. (at : LeadsToNode layout point) →
      done.leafs_removed ≡ length (pairs_of at.node))
  pub kept : ForTree bytes P s root (λ pairs old. ForRoot bytes P t done.new_root (λ after new.
      ChangesInPlace bytes s t (Some old) new))
