-- A store as functions of a name: what is held under it, what a tree sees of that, and how leaves are linked.
use Rattle.std.specs.Prelude.{◌≢◌, ℕ, Option, Some, None}
use Rattle.std.specs.Option.{option_map, option_and_then}
use Rattle.std.specs.FinMap as map
use Rattle.art_inner.specs.Inner.{Inner}
use Rattle.art_parts.specs.Names.{leaf_name}
use Rattle.art_nodes.specs.Nodes.{Nodes}
use Rattle.art_parts.specs.declared.names.NodeType.{NodeType}
use Rattle.art_parts.specs.declared.names.NodeType.TheVariants.{Leaf}
use Rattle.art_parts.specs.declared.names.OpaqueNodePtr.{OpaqueNodePtr}
use Rattle.art_parts.specs.declared.leaf.LeafNode.{LeafNode}
use Rattle.art_model.specs.Trees.{NodeHeader}
use Rattle.art_model.specs.Layouts.{Node, leaf_node, inner_node, Links}

-- a node with all that a store has of it
pub data Held (K V : Type 0) : Type 0 where
  held_leaf : LeafNode K V → Held K V
  held_inner : Inner → Held K V

-- the header of an inner node whose name has this kind
abbrev pub header_at : NodeType → Inner → NodeHeader
header_at kind node = record { kind = kind; length_of = node.prefix.len; stored = node.prefix.stored }

-- an inner node as a tree sees it
abbrev pub inner_seen : {A : Type 0} → NodeType → Inner → Node OpaqueNodePtr A
inner_seen kind node = inner_node (header_at kind node) node.children

module _ {K V : Type 0} where
  -- what is held under a kind and a slot
  abbrev pub content_in : Nodes K V → NodeType → ℕ → Option (Held K V)
  content_in s Leaf slot = option_map held_leaf (map.get s.leaves (record { slot = slot }))
  content_in s kind slot = option_map held_inner (map.get s.inners (record { kind = kind; slot = slot }))

  -- what is held under a name
  abbrev pub content_at : Nodes K V → OpaqueNodePtr → Option (Held K V)
  content_at s name = content_in s name.kind name.slot

  -- the name is in use
  abbrev pub IsUsed : Nodes K V → OpaqueNodePtr → Type 0
  IsUsed s name = content_at s name ≢ None

  -- the pair of a leaf
  abbrev pub pair_of : LeafNode K V → K × V
  pair_of leaf = (leaf.key, leaf.value)

  -- what a tree sees of a node: not the links of a leaf
  abbrev pub tree_node : NodeType → Held K V → Node OpaqueNodePtr (K × V)
  tree_node kind (held_leaf leaf) = leaf_node (pair_of leaf)
  tree_node kind (held_inner node) = inner_seen kind node

  -- the node that a tree sees under a name
  abbrev pub node_at : Nodes K V → OpaqueNodePtr → Option (Node OpaqueNodePtr (K × V))
  node_at s name = option_map (tree_node name.kind) (content_at s name)

  -- the links of a leaf
  abbrev pub links_of : Held K V → Option (Links OpaqueNodePtr)
  links_of (held_leaf leaf) =
      Some (record { previous = option_map leaf_name leaf.previous; next = option_map leaf_name leaf.next })
  links_of (held_inner node) = None

  -- the links of the leaf under a name
  abbrev pub links_at : Nodes K V → OpaqueNodePtr → Option (Links OpaqueNodePtr)
  links_at s name = option_and_then links_of (content_at s name)

  -- by kind and slot, where leaves are not looked up
  abbrev pub shape_in : Nodes K V → NodeType → ℕ → Option (Node OpaqueNodePtr (Unit {0}))
  shape_in s Leaf slot = Some (leaf_node tt)
  shape_in s kind slot = option_map (inner_seen kind) (map.get s.inners (record { kind = kind; slot = slot }))

  -- the node that a tree without leaves sees under a name: every leaf's name is an end, and is not looked up
  abbrev pub shape_at : Nodes K V → OpaqueNodePtr → Option (Node OpaqueNodePtr (Unit {0}))
  shape_at s name = shape_in s name.kind name.slot
