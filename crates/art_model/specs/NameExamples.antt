-- A small store before and after an insertion, which may give stored nodes other names. Keys are lists of numbers, and each value is 0.
use Rattle.std.specs.Prelude.{ℕ, [], ◌∷◌, Some, None}
use Rattle.art_nodes.specs.Nodes.{Nodes}
use Rattle.art_parts.specs.declared.names.OpaqueNodePtr.{OpaqueNodePtr}
use Rattle.art_model.specs.Trees.{Tree, leaf, inner, child, no_child}
use Rattle.art_model.specs.Examples.{Key, of_length, node4, leaf_at}
use Rattle.art_model.specs.FaultExamples.{store_of, leaf_between, node4_over}

-- a key and its value, with the names of the nodes
abbrev pub NamedTree : Type 0
NamedTree = Tree OpaqueNodePtr (Key × ℕ)

-- the keys 1 and 2, in the leaves 1 and 2 below the Node4 in slot 0
abbrev pub two_keys : Nodes Key ℕ
two_keys =
    store_of
    (leaf_between 1 None (1 ∷ []) (Some 2) ∷ leaf_between 2 (Some 1) (2 ∷ []) None ∷ [])
    (node4_over 0 0 [] ((1, leaf_at 1) ∷ (2, leaf_at 2) ∷ []) ∷ [])

-- its tree
abbrev pub tree_of_two : NamedTree
tree_of_two =
    inner (node4 0) (of_length 0 [])
    (child 1 (leaf (leaf_at 1) (1 ∷ [], 0)) (child 2 (leaf (leaf_at 2) (2 ∷ [], 0)) no_child))

-- the same with the key 3 in the leaf 3, where the key 1 is in the first of these slots and the Node4 in the second
abbrev pub three_keys : ℕ → ℕ → Nodes Key ℕ
three_keys first node =
    store_of
    (leaf_between first None (1 ∷ []) (Some 2) ∷ leaf_between 2 (Some first) (2 ∷ []) (Some 3) ∷
    leaf_between 3 (Some 2) (3 ∷ []) None ∷ [])
    (node4_over node 0 [] ((1, leaf_at first) ∷ (2, leaf_at 2) ∷ (3, leaf_at 3) ∷ []) ∷ [])

-- its tree
abbrev pub tree_of_three : ℕ → ℕ → NamedTree
tree_of_three first node =
    inner (node4 node) (of_length 0 [])
    (child 1 (leaf (leaf_at first) (1 ∷ [], 0))
    (child 2 (leaf (leaf_at 2) (2 ∷ [], 0)) (child 3 (leaf (leaf_at 3) (3 ∷ [], 0)) no_child)))
