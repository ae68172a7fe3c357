-- Small stores that hold no well-formed tree. Keys are lists of numbers, and each value is 0.
use Rattle.std.specs.Prelude.{ℕ, List, [], ◌∷◌, Option, Some, None}
use Rattle.std.specs.FinMap as map
use Rattle.std.specs.Option.{option_map}
use Rattle.art_inner.specs.Inner.{Inner}
use Rattle.art_nodes.specs.Nodes.{Nodes, no_promise}
use Rattle.art_parts.specs.declared.names.InnerPtr.{InnerPtr}
use Rattle.art_parts.specs.declared.leaf.LeafNode.{LeafNode}
use Rattle.art_parts.specs.declared.names.LeafPtr.{LeafPtr}
use Rattle.art_parts.specs.declared.names.NodeType.TheVariants.{Node4}
use Rattle.art_parts.specs.declared.names.OpaqueNodePtr.{OpaqueNodePtr}
use Rattle.art_model.specs.Examples.{Key, node4, leaf_at}

-- the store of these nodes, each list by rising names
abbrev pub store_of : List (LeafPtr × LeafNode Key ℕ) → List (InnerPtr × Inner) → Nodes Key ℕ
store_of leaves inners =
    record { leaves = map.from_sorted leaves; inners = map.from_sorted inners; promise = no_promise }

-- the leaf in this slot
abbrev pub leaf_in : ℕ → LeafPtr
leaf_in slot = record { slot = slot }

-- a leaf in a slot: its key, between the leaves in these slots
abbrev pub leaf_between : ℕ → Option ℕ → Key → Option ℕ → LeafPtr × LeafNode Key ℕ
leaf_between slot previous key next = (
  leaf_in slot,
  record { key = key; value = 0; previous = option_map leaf_in previous; next = option_map leaf_in next },
)

-- a Node4 in a slot: the length of its prefix, what is stored of it, and its children
abbrev pub node4_over : ℕ → ℕ → List ℕ → List (ℕ × OpaqueNodePtr) → InnerPtr × Inner
node4_over slot len stored children = (
  record { kind = Node4; slot = slot },
  record { prefix = record { len = len; stored = stored }; children = children },
)

-- a Node4 below itself
abbrev pub looped : Nodes Key ℕ
looped = store_of [] (node4_over 0 0 [] ((5, node4 0) ∷ []) ∷ [])

-- a leaf under two bytes of a Node4
abbrev pub shared : Nodes Key ℕ
shared =
    store_of (leaf_between 0 None (1 ∷ []) None ∷ []) (node4_over 0 0 [] ((1, leaf_at 0) ∷ (2, leaf_at 0) ∷ []) ∷ [])

-- a leaf that names itself as the next one
abbrev pub self_linked : Nodes Key ℕ
self_linked = store_of (leaf_between 0 None (1 ∷ []) (Some 0) ∷ []) []

-- a leaf that names a dead one as the previous one
abbrev pub linked_to_nothing : Nodes Key ℕ
linked_to_nothing = store_of (leaf_between 0 (Some 7) (1 ∷ []) None ∷ []) []

-- a Node4 over one leaf, whose key has another byte
abbrev pub misplaced : Nodes Key ℕ
misplaced = store_of (leaf_between 0 None (2 ∷ []) None ∷ []) (node4_over 0 0 [] ((1, leaf_at 0) ∷ []) ∷ [])

-- a Node4 below itself, with a prefix that is not stored whole
abbrev pub unreadable : Nodes Key ℕ
unreadable = store_of [] (node4_over 0 4 (1 ∷ 1 ∷ []) ((5, node4 0) ∷ []) ∷ [])

-- a Node4 over two linked leaves, which stores another byte than they have
abbrev pub misstored : Nodes Key ℕ
misstored =
    store_of
    (leaf_between 0 None (1 ∷ 1 ∷ 1 ∷ 1 ∷ 5 ∷ []) (Some 1) ∷
    leaf_between 1 (Some 0) (1 ∷ 1 ∷ 1 ∷ 1 ∷ 6 ∷ []) None ∷ [])
    (node4_over 0 4 (1 ∷ 2 ∷ []) ((5, leaf_at 0) ∷ (6, leaf_at 1) ∷ []) ∷ [])
