-- What an applied insert point places and touches, and what it leaves.
use Rattle.std.specs.Prelude.{◌≡◌, ◌↔◌, ℕ, Bool, false, MatchBool, if◌then◌else◌, nat_le, List, ◌∷◌, length, Option, Some, None, Result, IsOk, IfOk, IfErr, ⊤}
use Rattle.std.specs.FinMap as map
use Rattle.art_parts.specs.Kinds.{kind_capacity, next_larger}
use Rattle.art_parts.specs.Names.{leaf_name, inner_name}
use Rattle.art_nodes.specs.Nodes.{Nodes, Promise}
use Rattle.art_parts.specs.declared.names.NodeType.TheVariants.{Node4}
use Rattle.art_parts.specs.declared.names.InnerPtr.{InnerPtr}
use Rattle.art_parts.specs.declared.leaf.LeafNode.{LeafNode}
use Rattle.art_parts.specs.declared.names.LeafPtr.{LeafPtr}
use Rattle.art_parts.specs.declared.names.OpaqueNodePtr.{OpaqueNodePtr}
use Rattle.art_model.specs.Canonical.{IsCanonicalTree}
use Rattle.art_model.specs.Footprints.{TouchesAtMost}
use Rattle.art_model.specs.Pairs.{is_conflict}
use Rattle.art_model.specs.Paths.{Frame, plug}
use Rattle.art_model.specs.Roots.{ForTree}
use Rattle.art_model.specs.Trees.{Tree, leaf}
use Rattle.art_model.specs.Writes.{parent_of}
use Rattle.art_reading.specs.declared.end_node.InsertKind.{InsertKind}
use Rattle.art_reading.specs.declared.end_node.InsertKind.TheVariants.{MismatchPrefix, SplitLeaf, Exact, IntoExisting}
use Rattle.art_writing.specs.declared.insert.InsertParentNodeChange.{InsertParentNodeChange}
use Rattle.art_writing.specs.declared.insert.InsertParentNodeChange.TheVariants.{NewParent, NoChange}
use Rattle.art_writing.specs.declared.insert.InsertPoint.{InsertPoint}
use Rattle.art_writing.specs.declared.insert.InsertResult.{InsertResult}
use Rattle.art_writing.specs.declared.insert.InsertSearchError.{InsertSearchError}
use Rattle.art_reading.specs.declared.path.TreePath.TheVariants.{Root}
use Rattle.art_writing.specs.Points.{AnswersTo, IsRefusedFor}

-- the point is an insert point of the store, its root and the key
abbrev pub IsPointIn : {K V : Type 0} → (K × V → List ℕ) → ℕ → Nodes K V → List ℕ → InsertPoint → Type 0
IsPointIn {K} {V} bytes P s key point =
    (pairs : List (K × V)) × (layout : Tree OpaqueNodePtr (K × V)) ×
    IsCanonicalTree bytes P s point.root pairs layout × AnswersTo bytes P layout key point

module _ {K V : Type 0} (bytes : K × V → List ℕ) (P : ℕ) (s : Nodes K V) (name : OpaqueNodePtr) (key : List ℕ) where
  -- The insert point of a key in the tree of a name, or an error exactly if a stored key conflicts with it. The point can be applied.
  pub record HasInsertPoint (result : Result InsertPoint InsertSearchError) : Type 0 where
    pub accepted : ForTree bytes P s name (λ pairs layout. IsOk result ↔ (is_conflict bytes key pairs ≡ false))
    pub point : ForTree bytes P s name (λ pairs layout. IfOk result (AnswersTo bytes P layout key))
    pub root : IfOk result (λ point. point.root ≡ name)
    pub applies : IfOk result (IsPointIn bytes P s key)
    pub refused : IfErr result (IsRefusedFor key)

-- a leaf with no neighbours
abbrev pub unlinked_leaf : {K V : Type 0} → K × V → LeafNode K V
unlinked_leaf pair = record { key = pair.0; value = pair.1; previous = None; next = None }

module _ {K V : Type 0} where
  -- whether a node has as many children as its kind has room for
  abbrev pub is_full : Nodes K V → InnerPtr → Bool
  is_full s name =
      elim (map.get s.inners name) [ None ↦ false | Some node ↦ nat_le (kind_capacity name.kind) (length node.children) ]

  -- the nodes that an insertion of each kind places: the leaf, and the inner node above it where that is a new one
  abbrev pub placed_for : Nodes K V → InsertKind → Promise
  placed_for s (Exact p) = record { leaves = 0; inner = None }
  placed_for s (IntoExisting p) = record { leaves = 1; inner = if is_full s p then next_larger p.kind else None }
  placed_for s kind = record { leaves = 1; inner = Some Node4 }

  -- how many names an insertion of each kind places, frees and changes at most
  abbrev pub Touches : InsertKind → Nodes K V → Nodes K V → Type 0
  Touches (Exact p) s t = TouchesAtMost 0 0 1 s t
  Touches (SplitLeaf p used) s t = TouchesAtMost 2 0 3 s t
  Touches (IntoExisting p) s t = MatchBool (is_full s p) (TouchesAtMost 2 1 3 s t) (TouchesAtMost 1 0 3 s t)
  Touches (MismatchPrefix mismatch p) s t = TouchesAtMost 2 0 4 s t

-- what is reported of the leaf's parent: nothing where a value was replaced, and else its name and the leaf's byte there
abbrev pub IsChange : InsertKind → Option (InnerPtr × ℕ) → InsertParentNodeChange → Type 0
IsChange (Exact p) parent told = told ≡ NoChange
IsChange kind None told = ⊥
IsChange kind (Some parent) told = told ≡ NewParent parent.0 parent.1

-- the root after an insertion: the leaf's parent where the point's node was the root and has a parent, and else the old root
abbrev pub root_after : InsertPoint → InsertParentNodeChange → OpaqueNodePtr
root_after point NoChange = point.root
root_after point (NewParent parent byte) = elim point.path [ Root ↦ inner_name parent | _ ↦ point.root ]

-- The leaf of the pair is a child of the parent, under the byte, and this path leads to the parent.
pub record IsChildAt {K V : Type 0} (up : List (Frame OpaqueNodePtr (K × V))) (tree : Tree OpaqueNodePtr (K × V))
    (pair : K × V) (name : LeafPtr) (parent : InnerPtr) (byte : ℕ) : Type 0 where
  pub frame : Frame OpaqueNodePtr (K × V)
  pub mark : frame.mark ≡ inner_name parent
  pub byte_is : frame.byte ≡ byte
  pub whole : plug (frame ∷ up) (leaf (leaf_name name) pair) ≡ tree

-- a new leaf's parent is where this path leads, which was the path to the point's node; nothing is said where a value was replaced
abbrev pub IsBelow : {K V : Type 0} → List (Frame OpaqueNodePtr (K × V)) → Tree OpaqueNodePtr (K × V) → K × V → LeafPtr →
    InsertParentNodeChange → Type 0
IsBelow up tree pair name NoChange = ⊤
IsBelow up tree pair name (NewParent parent byte) = IsChildAt up tree pair name parent byte

-- The tree has the pair's leaf under the returned name, and root and parent follow from the leaf's path.
pub record HasInserted {K V : Type 0} (tree : Tree OpaqueNodePtr (K × V)) (point : InsertPoint)
    (pair : K × V) (done : InsertResult K V) : Type 0 where
  pub path : List (Frame OpaqueNodePtr (K × V))
  pub whole : plug path (leaf (leaf_name done.leaf_node_ptr) pair) ≡ tree
  pub change : IsChange point.insert_kind (parent_of path) done.parent_node_change
  pub root : done.new_root ≡ root_after point done.parent_node_change
