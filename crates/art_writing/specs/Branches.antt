-- A new node above a node and a new leaf: what is read before it is placed, and what its placement makes of a store. No public clause cites this module.
use Rattle.std.specs.Prelude.{◌≡◌, ◌≢◌, ℕ, if◌then◌else◌, nat_lt, List, [], ◌∷◌, ◌++◌, take, None}
use Rattle.std.specs.Option.{option_map}
use Rattle.std.specs.FinMap as map
use Rattle.art_inner.specs.InnerChanges.{with_child}
use Rattle.art_inner.specs.Inner.{childless}
use Rattle.art_parts.specs.Headers.{header_of}
use Rattle.art_parts.specs.Names.{leaf_name, inner_name}
use Rattle.art_nodes.specs.Nodes.{Nodes}
use Rattle.art_parts.specs.declared.names.InnerPtr.{InnerPtr}
use Rattle.art_parts.specs.declared.names.NodeType.TheVariants.{Node4}
use Rattle.art_parts.specs.declared.names.OpaqueNodePtr.{OpaqueNodePtr}
use Rattle.art_model.specs.Canonical.{IsCanonicalTree}
use Rattle.art_parts.specs.Keys.{IsFront}
use Rattle.art_model.specs.Layouts.{leaf_names, first_or, last_or}
use Rattle.art_model.specs.Paths.{Frame, leaves_before, leaves_after}
use Rattle.art_model.specs.Places.{depth_of, least_key}
use Rattle.art_model.specs.Trees.{Tree}
use Rattle.art_model.specs.Writes.{with_child_at, with_leaf}
use Rattle.art_writing.specs.declared.insert.InsertParentNodeChange.TheVariants.{NewParent}
use Rattle.art_writing.specs.declared.insert.InsertPoint.{InsertPoint}
use Rattle.art_writing.specs.declared.insert.InsertResult.{InsertResult}
use Rattle.art_writing.specs.declared.insert.branch.Branch.{Branch}
use Rattle.art_writing.specs.Points.{AnswersTo}
use Rattle.art_reading.specs.PathSteps.{last_step, root_with}

-- this holds of the path and the node of the point, in each layout of its root
abbrev pub ForEnd : {K V : Type 0} → (K × V → List ℕ) → ℕ → Nodes K V → List ℕ → InsertPoint →
    (List (Frame OpaqueNodePtr (K × V)) → Tree OpaqueNodePtr (K × V) → Type 0) → Type 0
ForEnd {K} {V} bytes P s key point Holds =
    (pairs : List (K × V)) (layout : Tree OpaqueNodePtr (K × V)) →
    IsCanonicalTree bytes P s point.root pairs layout → (at : AnswersTo bytes P layout key point) →
    Holds at.path at.node

module _ {A : Type 0} {P : ℕ} (bytes : A → List ℕ) (key : List ℕ) (path : List (Frame OpaqueNodePtr A))
    (node : Tree OpaqueNodePtr A) where
  -- After the node's place the key and the keys below share the part, and then differ in a byte. The new leaf is a neighbour of those of the node.
  pub record IsBranch (branch : Branch P) : Type 0 where
    pub part : List ℕ
    pub header : branch.header ≡ header_of P part
    pub new_way : IsFront ((take (depth_of path) key ++ part) ++ branch.new_byte ∷ []) key
    pub old_way : IsFront ((take (depth_of path) key ++ part) ++ branch.old_byte ∷ []) (least_key bytes node)
    pub apart : branch.old_byte ≢ branch.new_byte
    pub previous : option_map leaf_name branch.previous ≡
        last_or (leaves_before path ++ (if nat_lt branch.old_byte branch.new_byte then leaf_names node else [])) None
    pub next : option_map leaf_name branch.next ≡
        first_or ((if nat_lt branch.old_byte branch.new_byte then [] else leaf_names node) ++ leaves_after path) None

-- A leaf of the pair and a Node4 above it and the old node are placed, and the parent at the end of the path has the Node4.
pub record IsBranchPlaced {K V : Type 0} {P : ℕ} (s t : Nodes K V) (point : InsertPoint) (old : OpaqueNodePtr)
    (branch : Branch P) (pair : K × V) (done : InsertResult K V) : Type 0 where
  pub node : InnerPtr
  pub kind : node.kind ≡ Node4
  pub node_was_free : map.get s.inners node ≡ None
  pub leaf_was_free : map.get s.leaves done.leaf_node_ptr ≡ None
  pub leaves : t.leaves ≡ with_leaf s.leaves done.leaf_node_ptr
      (record { key = pair.0; value = pair.1; previous = branch.previous; next = branch.next })
  pub inners : t.inners ≡ with_child_at (last_step point.path) (inner_name node)
      (map.insert s.inners node (with_child branch.new_byte (leaf_name done.leaf_node_ptr)
      (with_child branch.old_byte old (childless branch.header))))
  pub existing : done.existing_leaf ≡ None
  pub change : done.parent_node_change ≡ NewParent node branch.new_byte
  pub root : done.new_root ≡ root_with point.path point.root (inner_name node)
