-- The right edge of a canonical tree, and where the next key is inserted there.
use Rattle.std.specs.Prelude.{◌≡◌, ℕ, ◌<◌, ◌≤◌, List, Option, Some, None, get_or, ⊤}
use Rattle.art_loading.specs.declared.edge.Step.{Step}
use Rattle.art_loading.specs.EdgeSteps.{steps_of, IsRightmost}
use Rattle.art_model.specs.Canonical.{IsCanonicalTree}
use Rattle.art_model.specs.Lookups.{HasFirstLeaf, HasLastLeaf}
use Rattle.art_model.specs.Paths.{Frame, plug}
use Rattle.art_model.specs.Places.{depth_of}
use Rattle.art_model.specs.Radix.{join}
use Rattle.art_model.specs.Trees.{Tree, leaf, inner, Subtrees, child, no_child}
use Rattle.art_nodes.specs.Nodes.{Nodes}
use Rattle.art_parts.specs.Names.{leaf_name}
use Rattle.art_parts.specs.declared.names.LeafPtr.{LeafPtr}
use Rattle.art_parts.specs.declared.names.OpaqueNodePtr.{OpaqueNodePtr}
use Rattle.art_reading.specs.declared.end_node.InsertKind.{InsertKind}
use Rattle.art_reading.specs.declared.end_node.InsertKind.TheVariants.{Exact, IntoExisting}
use Rattle.art_writing.specs.Points.{AnswersTo}
use Rattle.art_writing.specs.declared.insert.InsertPoint.{InsertPoint}

-- the least leaf below a node, exactly if its prefix has more than P bytes
abbrev pub IsLeafIf : {A : Type 0} → ℕ → ℕ → Tree OpaqueNodePtr A → Option LeafPtr → Type 0
IsLeafIf P len tree None = len ≤ P
IsLeafIf P len tree (Some name) = (P < len) × HasFirstLeaf tree (leaf_name name)

-- a new leaf is placed
abbrev pub IsNewKind : InsertKind → Type 0
IsNewKind (Exact p) = ⊥
IsNewKind kind = ⊤

-- the last child of the node is under a lesser byte than this one, and its last leaf has this name
abbrev pub EndsUnder : {A : Type 0} → LeafPtr → ℕ → Tree OpaqueNodePtr A → Type 0
EndsUnder last b (leaf n x) = ⊤
EndsUnder {A} last b (inner n h children) =
    (others : Subtrees OpaqueNodePtr A) × (c : ℕ) × (t : Tree OpaqueNodePtr A) × (children ≡ join others (child c t no_child)) ×
    (c < b) × HasLastLeaf t (leaf_name last)

-- it does, where a node gets a further child under this byte
abbrev pub EndsIfInto : {A : Type 0} → InsertKind → LeafPtr → ℕ → Tree OpaqueNodePtr A → Type 0
EndsIfInto (IntoExisting p) last b node = EndsUnder last b node
EndsIfInto kind last b node = ⊤

module _ {K V : Type 0} (bytes : K × V → List ℕ) (P : ℕ) where
  -- The root is canonical for the pairs, and the steps lead to its last leaf.
  pub record IsEdge (s : Nodes K V) (root : OpaqueNodePtr) (steps : List Step) (last : LeafPtr) (pairs : List (K × V)) : Type 0 where
    pub layout : Tree OpaqueNodePtr (K × V)
    pub by : IsCanonicalTree bytes P s root pairs layout
    pub frames : List (Frame OpaqueNodePtr (K × V))
    pub pair : K × V
    pub whole : plug frames (leaf (leaf_name last) pair) ≡ layout
    pub rightmost : IsRightmost frames
    pub steps_are : steps ≡ steps_of frames

  -- The point of a key after the last one; these are the steps above the point's node, and the length of its place.
  pub record IsEdgePoint (layout : Tree OpaqueNodePtr (K × V)) (last : LeafPtr) (key : List ℕ) (point : InsertPoint) (above : List Step) (depth : ℕ) : Type 0 where
    pub at : AnswersTo bytes P layout key point
    pub above_is : above ≡ steps_of at.path
    pub depth_is : depth ≡ depth_of at.path
    pub rightmost : IsRightmost at.path
    pub is_new : IsNewKind point.insert_kind
    pub ends : EndsIfInto point.insert_kind last (get_or key point.key_bytes_used 0) at.node

  -- the point is one of a key after the last one
  abbrev pub IsLastPoint : Nodes K V → LeafPtr → List ℕ → InsertPoint → Type 0
  IsLastPoint s last key point =
      (steps : List Step) × (pairs : List (K × V)) × (edge : IsEdge s point.root steps last pairs) × (above : List Step) × (depth : ℕ) ×
      IsEdgePoint edge.layout last key point above depth
