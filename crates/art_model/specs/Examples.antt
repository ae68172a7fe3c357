-- Small maps and their trees, to be compared with what the definitions compute. Where values don't matter a pair is just its key.
use Rattle.std.specs.Prelude.{ℕ, zero, suc, ◌+◌, if◌then◌else◌, ◌==◌, List, [], ◌∷◌, ◌++◌, Option, Some, None}
use Rattle.art_parts.specs.declared.names.NodeType.{NodeType}
use Rattle.art_parts.specs.declared.names.NodeType.TheVariants.{Node4, Leaf}
use Rattle.art_parts.specs.declared.names.OpaqueNodePtr.{OpaqueNodePtr}
use Rattle.art_model.specs.Pairs.{of_key}
use Rattle.art_model.specs.Trees.{Tree, leaf, inner, Subtrees, child, no_child, NodeHeader, tree_of}
use Rattle.art_model.specs.Layouts.{Node, leaf_node, inner_node, Links}

-- a key
abbrev pub Key : Type 0
Key = List ℕ

-- a tree whose leaves have only keys
abbrev pub KeyTree : Type 0
KeyTree = Tree (Unit {0}) Key

-- the tree of keys
abbrev pub tree_of_keys : List Key → ℕ → Option KeyTree
tree_of_keys keys P = tree_of (λ key. key) keys P 0

-- a key and a number as its value
abbrev pub bytes_of_pair : Key × ℕ → Key
bytes_of_pair = of_key (λ key. key)

-- the header of a Node4 with this prefix length and these stored bytes
abbrev pub of_length : ℕ → List ℕ → NodeHeader
of_length length_of stored = record { kind = Node4; length_of = length_of; stored = stored }

-- a Node4 with two children
abbrev pub over_two : ℕ → List ℕ → ℕ → KeyTree → ℕ → KeyTree → KeyTree
over_two length_of stored b t c u = inner tt (of_length length_of stored) (child b t (child c u no_child))

-- so many keys of one byte each, from a first byte on
abbrev pub one_byte_keys : ℕ → ℕ → List Key
one_byte_keys zero first = []
one_byte_keys (suc n) first = (first ∷ []) ∷ one_byte_keys n (first + 1)

-- their leaves, each under its byte
abbrev pub one_byte_leaves : ℕ → ℕ → Subtrees (Unit {0}) Key
one_byte_leaves zero first = no_child
one_byte_leaves (suc n) first = child first (leaf tt (first ∷ [])) (one_byte_leaves n (first + 1))

-- a node of this kind with no prefix over so many leaves of one-byte keys
abbrev pub fan : NodeType → ℕ → KeyTree
fan kind n = inner tt (record { kind = kind; length_of = 0; stored = [] }) (one_byte_leaves n 0)

-- so many zeros
abbrev pub zeros : ℕ → List ℕ
zeros zero = []
zeros (suc n) = 0 ∷ zeros n

-- so many keys, each of some zeros and then 255, the one with the most zeros first
abbrev pub zero_keys : ℕ → List Key
zero_keys zero = []
zero_keys (suc n) = (zeros n ++ 255 ∷ []) ∷ zero_keys n

-- their tree: so many nodes one below the other, each under the byte 0 and with a leaf under 255 as its sibling
abbrev pub zero_tree : ℕ → List ℕ → KeyTree
zero_tree zero place = leaf tt (place ++ 255 ∷ [])
zero_tree (suc n) place = over_two 0 [] 0 (zero_tree n (place ++ 0 ∷ [])) 255 (leaf tt (place ++ 255 ∷ []))

-- the keys 1 2, 1 3 and 2 with the values 5, 6 and 7
abbrev pub three_pairs : List (Key × ℕ)
three_pairs = (1 ∷ 2 ∷ [], 5) ∷ (1 ∷ 3 ∷ [], 6) ∷ (2 ∷ [], 7) ∷ []

-- a key with a tag, which is none of its bytes, and a number as its value
abbrev pub bytes_of_tagged : (Key × ℕ) × ℕ → Key
bytes_of_tagged = of_key (λ key. key.0)

-- the key 1 2 with the tag 1 and the value 10
abbrev pub tagged_pair : List ((Key × ℕ) × ℕ)
tagged_pair = ((1 ∷ 2 ∷ [], 1), 10) ∷ []

-- the bytes of "interact"
abbrev pub interact : Key
interact = 105 ∷ 110 ∷ 116 ∷ 101 ∷ 114 ∷ 97 ∷ 99 ∷ 116 ∷ []

-- the bytes of "interest"
abbrev pub interest : Key
interest = 105 ∷ 110 ∷ 116 ∷ 101 ∷ 114 ∷ 101 ∷ 115 ∷ 116 ∷ []

-- the bytes of "kit"
abbrev pub kit : Key
kit = 107 ∷ 105 ∷ 116 ∷ []

-- ---- a tree with its names

-- the name of a Node4
abbrev pub node4 : ℕ → OpaqueNodePtr
node4 slot = record { kind = Node4; slot = slot }

-- the name of a leaf
abbrev pub leaf_at : ℕ → OpaqueNodePtr
leaf_at slot = record { kind = Leaf; slot = slot }

-- the tree of interact, interest and kit, with a name for each node
abbrev pub pictured : Tree OpaqueNodePtr Key
pictured =
    inner (node4 0) (of_length 0 [])
    (child 105 (inner (node4 1) (of_length 4 (110 ∷ 116 ∷ []))
    (child 97 (leaf (leaf_at 2) interact) (child 101 (leaf (leaf_at 0) interest) no_child)))
    (child 107 (leaf (leaf_at 5) kit) no_child))

-- its nodes by kind and slot
abbrev pub pictured_in : NodeType → ℕ → Option (Node OpaqueNodePtr Key)
pictured_in Node4 slot =
    if slot == 0 then Some (inner_node (of_length 0 []) ((105, node4 1) ∷ (107, leaf_at 5) ∷ []))
    else if slot == 1 then Some (inner_node (of_length 4 (110 ∷ 116 ∷ [])) ((97, leaf_at 2) ∷ (101, leaf_at 0) ∷ []))
    else None
pictured_in Leaf slot =
    if slot == 2 then Some (leaf_node interact)
    else if slot == 0 then Some (leaf_node interest)
    else if slot == 5 then Some (leaf_node kit)
    else None
pictured_in kind slot = None

-- the nodes under its names
abbrev pub pictured_at : OpaqueNodePtr → Option (Node OpaqueNodePtr Key)
pictured_at name = pictured_in name.kind name.slot

-- the links of its leaves
abbrev pub pictured_links : OpaqueNodePtr → Option (Links OpaqueNodePtr)
pictured_links name =
    if name.slot == 2 then Some (record { previous = None; next = Some (leaf_at 0) })
    else if name.slot == 0 then Some (record { previous = Some (leaf_at 2); next = Some (leaf_at 5) })
    else if name.slot == 5 then Some (record { previous = Some (leaf_at 0); next = None })
    else None
