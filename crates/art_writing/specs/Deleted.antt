-- The points at which leaves are removed, what an applied delete point places and touches, and the root that it leaves.
use Rattle.std.specs.Prelude.{◌≡◌, ℕ, if◌then◌else◌, nat_le, List, length, Option, Some, None, IfNone, IfSome, ⊤}
use Rattle.std.specs.FinMap as map
use Rattle.std.specs.Option.{option_map}
use Rattle.art_parts.specs.Kinds.{kind_least, smaller_kind}
use Rattle.art_parts.specs.Names.{leaf_name}
use Rattle.art_nodes.specs.Nodes.{Nodes, Promise}
use Rattle.art_parts.specs.declared.names.NodeType.{NodeType}
use Rattle.art_parts.specs.declared.names.NodeType.TheVariants.{Node4}
use Rattle.art_parts.specs.declared.names.OpaqueNodePtr.{OpaqueNodePtr}
use Rattle.art_model.specs.Canonical.{IsCanonical, IsCanonicalTree}
use Rattle.art_model.specs.Footprints.{TouchesAtMost}
use Rattle.art_model.specs.Lookups.{pair_under}
use Rattle.art_model.specs.Pairs.{remove_key, remove_reply}
use Rattle.art_model.specs.Paths.{Frame, plug}
use Rattle.art_model.specs.Roots.{ForTree}
use Rattle.art_model.specs.Trees.{Tree, leaf}
use Rattle.art_writing.specs.declared.delete.DeletePoint.{DeletePoint}
use Rattle.art_reading.specs.declared.path.TreePath.{TreePath}
use Rattle.art_reading.specs.declared.path.TreePath.TheVariants.{Root, ChildOfRoot, Normal}
use Rattle.art_reading.specs.PathSteps.{last_step, path_of}

-- the point names the leaf of this pair, with its parent and grandparent and the bytes that lead down
pub record LeadsTo {A : Type 0} (tree : Tree OpaqueNodePtr A) (x : A) (point : DeletePoint) : Type 0 where
  pub path : List (Frame OpaqueNodePtr A)
  pub whole : plug path (leaf (leaf_name point.leaf_node_ptr) x) ≡ tree
  pub path_is : point.path ≡ path_of path

-- the point of the pair, or none where there is no pair
abbrev pub IsDeletePoint : {A : Type 0} → Tree OpaqueNodePtr A → Option A → Option DeletePoint → Type 0
IsDeletePoint tree None None = ⊤
IsDeletePoint tree (Some x) (Some point) = LeadsTo tree x point
IsDeletePoint tree pair point = ⊥

-- the pair of the leaf that a point names, if there is a point
abbrev pub pair_at : {K V : Type 0} → Nodes K V → Option DeletePoint → Option (K × V)
pair_at s point = pair_under s (option_map (λ p. p.leaf_node_ptr) point)

-- the point is a delete point of the store and the root
abbrev pub IsDeletePointIn : {K V : Type 0} → (K × V → List ℕ) → ℕ → Nodes K V → OpaqueNodePtr → DeletePoint → Type 0
IsDeletePointIn {K} {V} bytes P s root point =
    (pairs : List (K × V)) × (layout : Tree OpaqueNodePtr (K × V)) × (x : K × V) ×
    IsCanonicalTree bytes P s root pairs layout × LeadsTo layout x point

module _ {K V : Type 0} (bytes : K × V → List ℕ) (P : ℕ) (s : Nodes K V) (name : OpaqueNodePtr) where
  -- The point of the pair that is sought, or none if there is no such pair; it names the leaf that has the pair, and can be applied.
  pub record HasDeletePoint (sought : List (K × V) → Option (K × V)) (result : Option DeletePoint) : Type 0 where
    pub point : ForTree bytes P s name (λ pairs layout. IsDeletePoint layout (sought pairs) result)
    pub pair : ForTree bytes P s name (λ pairs _. pair_at s result ≡ sought pairs)
    pub applies : IfSome result (IsDeletePointIn bytes P s name)

  -- The same of the pair of a key. Without a point, the tree is already that of the pairs without the key.
  pub record HasKeyPoint (key : List ℕ) (result : Option DeletePoint) : Type 0 where
    pub point : ForTree bytes P s name (λ pairs layout. IsDeletePoint layout (remove_reply bytes key pairs) result)
    pub pair : ForTree bytes P s name (λ pairs _. pair_at s result ≡ remove_reply bytes key pairs)
    pub absent : ForTree bytes P s name (λ pairs _.
        IfNone result (IsCanonical bytes P s (Some name) (remove_key bytes key pairs)))
    pub applies : IfSome result (IsDeletePointIn bytes P s name)

-- what becomes of a leaf's parent when the leaf is removed: there is none; it keeps its kind; a node of the next smaller kind replaces it; its other child does
pub data ParentChange : Type 0 where
  no_parent : ParentChange
  keeps : ParentChange
  shrinks : NodeType → ParentChange
  is_compressed : ParentChange

-- by the parent's kind and its number of children: one with the kind's minimum can't keep the kind
abbrev pub change_of : NodeType → ℕ → ParentChange
change_of Node4 count = if nat_le count 2 then is_compressed else keeps
change_of kind count = if nat_le count (kind_least kind) then shrinks (smaller_kind kind) else keeps

-- the nodes that a deletion places, by what becomes of the parent: the smaller one that replaces it
abbrev pub placed_by : ParentChange → Promise
placed_by (shrinks kind) = record { leaves = 0; inner = Some kind }
placed_by change = record { leaves = 0; inner = None }

module _ {K V : Type 0} where
  -- what becomes of the parent at the end of a path
  abbrev pub parent_change : Nodes K V → TreePath → ParentChange
  parent_change s path = elim (last_step path) [
    | None ↦ no_parent
    | Some (parent, byte) ↦
        elim (map.get s.inners parent) [ None ↦ no_parent | Some node ↦ change_of parent.kind (length node.children) ]
  ]

  -- the nodes that a deletion places at the end of a path
  abbrev pub placed_for_deletion : Nodes K V → TreePath → Promise
  placed_for_deletion s path = placed_by (parent_change s path)

  -- how many names a deletion places, frees and changes at most
  abbrev pub TouchesFor : ParentChange → Nodes K V → Nodes K V → Type 0
  TouchesFor no_parent s t = TouchesAtMost 0 1 0 s t
  TouchesFor keeps s t = TouchesAtMost 0 1 3 s t
  TouchesFor (shrinks kind) s t = TouchesAtMost 1 2 3 s t
  TouchesFor is_compressed s t = TouchesAtMost 0 2 4 s t

-- the root after a deletion below it: the same where it keeps its kind, and else the node in its place
abbrev pub IsTopAfter : ParentChange → OpaqueNodePtr → Option OpaqueNodePtr → Type 0
IsTopAfter keeps root new = new ≡ Some root
IsTopAfter change root new = (name : OpaqueNodePtr) × (new ≡ Some name)

-- the root after a deletion: none where the leaf was the root, and the old one where the leaf's parent was not the root
abbrev pub IsRootAfter : ParentChange → TreePath → OpaqueNodePtr → Option OpaqueNodePtr → Type 0
IsRootAfter change Root root new = new ≡ None
IsRootAfter change (ChildOfRoot parent byte) root new = IsTopAfter change root new
IsRootAfter change (Normal parent byte grandparent above) root new = new ≡ Some root
