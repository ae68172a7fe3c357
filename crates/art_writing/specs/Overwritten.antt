-- What an applied overwrite point places and touches, and what it leaves.
use Rattle.std.specs.Prelude.{◌≡◌, ℕ, List, Some, None}
use Rattle.art_parts.specs.Names.{leaf_name}
use Rattle.art_nodes.specs.Nodes.{Nodes, Promise}
use Rattle.art_parts.specs.declared.names.NodeType.{NodeType}
use Rattle.art_parts.specs.declared.names.NodeType.TheVariants.{Leaf}
use Rattle.art_parts.specs.declared.names.OpaqueNodePtr.{OpaqueNodePtr}
use Rattle.art_model.specs.Canonical.{IsCanonicalTree}
use Rattle.art_model.specs.Footprints.{TouchesAtMost, TouchesRelated}
use Rattle.art_model.specs.Lookups.{HasLeaf}
use Rattle.art_model.specs.Pairs.{stored_for}
use Rattle.art_model.specs.Roots.{ForTree}
use Rattle.art_model.specs.Trees.{Tree}
use Rattle.art_writing.specs.declared.insert.InsertParentNodeChange.TheVariants.{NoChange}
use Rattle.art_writing.specs.declared.insert.InsertResult.{InsertResult}
use Rattle.art_writing.specs.declared.insert.OverwritePoint.{OverwritePoint}
use Rattle.art_writing.specs.declared.insert.PrefixInsertPoint.{PrefixInsertPoint}
use Rattle.art_writing.specs.declared.insert.PrefixInsertPoint.TheVariants as points
use Rattle.art_writing.specs.Inserted.{HasInserted, IsPointIn, Touches, placed_for}
use Rattle.art_writing.specs.Points.{AnswersToOverwrite, IsPointFor}

module _ {K V : Type 0} where
  -- the point is an overwrite point of the store, its root and the key
  abbrev pub IsOverwritePointIn : (K × V → List ℕ) → ℕ → Nodes K V → List ℕ → OverwritePoint → Type 0
  IsOverwritePointIn bytes P s key point =
      (pairs : List (K × V)) × (layout : Tree OpaqueNodePtr (K × V)) ×
      IsCanonicalTree bytes P s point.root pairs layout × AnswersToOverwrite bytes layout key point

  -- what an overwrite touches, by the kind of the node that is replaced: the leaf, whose pair is replaced; or the whole subtree
  abbrev pub TouchesForNode : NodeType → (K × V → List ℕ) → List ℕ → Nodes K V → Nodes K V →
      Tree OpaqueNodePtr (K × V) → Type 0
  TouchesForNode Leaf bytes key s t layout = TouchesAtMost 0 0 1 s t
  TouchesForNode kind bytes key s t layout = TouchesRelated bytes key s t (Some layout)

-- the nodes that an overwrite places: none where a leaf's pair is replaced, and else the leaf
abbrev pub placed_for_overwrite : NodeType → Promise
placed_for_overwrite Leaf = record { leaves = 0; inner = None }
placed_for_overwrite kind = record { leaves = 1; inner = None }

-- The tree has the pair's leaf under the returned name, which is its old name where a leaf's pair was replaced; nothing is reported of its parent.
pub record HasOverwritten {K V : Type 0} (tree : Tree OpaqueNodePtr (K × V)) (point : OverwritePoint)
    (pair : K × V) (done : InsertResult K V) : Type 0 where
  pub has : HasLeaf tree (leaf_name done.leaf_node_ptr) pair
  pub kept : point.overwrite_point.kind ≡ Leaf → leaf_name done.leaf_node_ptr ≡ point.overwrite_point
  pub change : done.parent_node_change ≡ NoChange

-- ---- points of either kind

module _ {K V : Type 0} where
  -- the point is a point of the store, its root and the key
  abbrev pub IsPrefixPointIn : (K × V → List ℕ) → ℕ → Nodes K V → List ℕ → PrefixInsertPoint → Type 0
  IsPrefixPointIn bytes P s key (points.InsertPoint point) = IsPointIn bytes P s key point
  IsPrefixPointIn bytes P s key (points.OverwritePoint point) = IsOverwritePointIn bytes P s key point

  -- the tree has the leaf of what is stored for the pair under the returned name
  abbrev pub HasCome : (K × V → List ℕ) → List (K × V) → Tree OpaqueNodePtr (K × V) → PrefixInsertPoint →
      K × V → InsertResult K V → Type 0
  HasCome bytes pairs tree (points.InsertPoint point) pair done =
      HasInserted tree point (stored_for bytes pair pairs) done
  HasCome bytes pairs tree (points.OverwritePoint point) pair done = HasOverwritten tree point pair done

  -- what is touched: what the insertion touches, or the overwrite
  abbrev pub TouchesForPrefix : PrefixInsertPoint → (K × V → List ℕ) → List ℕ → Nodes K V → Nodes K V →
      Tree OpaqueNodePtr (K × V) → Type 0
  TouchesForPrefix (points.InsertPoint point) bytes key s t layout = Touches point.insert_kind s t
  TouchesForPrefix (points.OverwritePoint point) bytes key s t layout =
      TouchesForNode point.overwrite_point.kind bytes key s t layout

  -- the nodes that are placed, by the insertion or the overwrite
  abbrev pub placed_for_prefix : Nodes K V → PrefixInsertPoint → Promise
  placed_for_prefix s (points.InsertPoint point) = placed_for s point.insert_kind
  placed_for_prefix s (points.OverwritePoint point) = placed_for_overwrite point.overwrite_point.kind

-- the root that a point names
abbrev pub root_of : PrefixInsertPoint → OpaqueNodePtr
root_of (points.InsertPoint point) = point.root
root_of (points.OverwritePoint point) = point.root

-- The point of a key in the tree of a name, of either kind. It can be applied.
pub record HasPrefixPoint {K V : Type 0} (bytes : K × V → List ℕ) (P : ℕ) (s : Nodes K V) (name : OpaqueNodePtr) (key : List ℕ)
    (result : PrefixInsertPoint) : Type 0 where
  pub point : ForTree bytes P s name (λ pairs layout. IsPointFor bytes P key pairs layout result)
  pub root : root_of result ≡ name
  pub applies : IsPrefixPointIn bytes P s key result
