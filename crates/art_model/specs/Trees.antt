-- Radix trees, and the tree of a map: its pairs grouped by the byte after the part that their keys share.
use Rattle.std.specs.Prelude.{ℕ, zero, suc, ◌+◌, if◌then◌else◌, ◌==◌, nat_le, List, [], ◌∷◌, length, take, drop, get_or, Option, Some, None}
use Rattle.art_parts.specs.declared.names.NodeType.{NodeType}
use Rattle.art_parts.specs.declared.names.NodeType.TheVariants.{Node4, Node16, Node48, Node256}
use Rattle.art_parts.specs.Keys.{common_front}

-- an inner node's kind, the length of its prefix, and the bytes that are stored of the prefix
pub record NodeHeader : Type 0 where
  pub kind : NodeType
  pub length_of : ℕ
  pub stored : List ℕ

-- A tree is a leaf with a pair, or an inner node with a header and children under bytes. N is the type of the mark of
-- each node: `Unit` in a plain tree, a name in a layout.
mutual
  pub data Tree (N A : Type 0) : Type 0 where
    leaf : N → A → Tree N A
    inner : N → NodeHeader → Subtrees N A → Tree N A

  pub data Subtrees (N A : Type 0) : Type 0 where
    no_child : Subtrees N A
    child : ℕ → Tree N A → Subtrees N A → Subtrees N A

-- the kind of an inner node by the number of its children
abbrev pub kind_of : ℕ → NodeType
kind_of n =
    if nat_le n 4 then Node4
    else if nat_le n 16 then Node16
    else if nat_le n 48 then Node48
    else Node256

-- the header of an inner node with this prefix and so many children, where P bytes can be stored
abbrev pub canonical_header : ℕ → List ℕ → ℕ → NodeHeader
canonical_header P part n = record { kind = kind_of n; length_of = length part; stored = take P part }

module _ {A : Type 0} where
  -- a pair is added to the first group if that has its byte, and else is a group of its own before the others
  abbrev pub add_to_groups : ℕ → A → List (ℕ × List A) → List (ℕ × List A)
  add_to_groups b x [] = (b, x ∷ []) ∷ []
  add_to_groups b x ((c, group) ∷ others) =
      if b == c then (b, x ∷ group) ∷ others else (b, x ∷ []) ∷ (c, group) ∷ others

  -- adjacent pairs with the same byte are one group, under that byte
  abbrev pub groups : (A → ℕ) → List A → List (ℕ × List A)
  groups byte [] = []
  groups byte (x ∷ xs) = add_to_groups (byte x) x (groups byte xs)

  -- a child before others, if there is a tree for it
  abbrev pub add_child : ℕ → Option (Tree (Unit {0}) A) → Subtrees (Unit {0}) A → Subtrees (Unit {0}) A
  add_child b None others = others
  add_child b (Some t) others = child b t others

  -- a child for each group
  abbrev pub children_of : (List A → Option (Tree (Unit {0}) A)) → List (ℕ × List A) → Subtrees (Unit {0}) A
  children_of build [] = no_child
  children_of build ((b, group) ∷ others) = add_child b (build group) (children_of build others)

module _ {A : Type 0} (bytes : A → List ℕ) where
  -- the longest bytes that all keys have from depth d on
  abbrev pub shared_part : ℕ → List A → List ℕ
  shared_part d [] = []
  shared_part d (x ∷ []) = drop d (bytes x)
  shared_part d (x ∷ y ∷ rest) = common_front (drop d (bytes x)) (shared_part d (y ∷ rest))

  -- the byte of a pair's key at a depth
  abbrev pub byte_at : ℕ → A → ℕ
  byte_at d x = get_or (bytes x) d 0

  -- The inner node of two or more pairs at depth d: `build` makes a tree of each group, from the depth after the group's byte.
  abbrev pub node_of : (ℕ → List A → Option (Tree (Unit {0}) A)) → ℕ → ℕ → List A → Option (Tree (Unit {0}) A)
  node_of build P d pairs =
      let part = shared_part d pairs in
      let gs = groups (byte_at (d + length part)) pairs in
      Some (inner tt (canonical_header P part (length gs)) (children_of (build (d + length part + 1)) gs))

  -- No pair has no tree, one pair its leaf, more an inner node. The first number bounds the recursion.
  abbrev pub tree_within : ℕ → ℕ → ℕ → List A → Option (Tree (Unit {0}) A)
  tree_within zero P d pairs = None
  tree_within (suc turns) P d [] = None
  tree_within (suc turns) P d (x ∷ []) = Some (leaf tt x)
  tree_within (suc turns) P d (x ∷ y ∷ rest) = node_of (tree_within turns P) P d (x ∷ y ∷ rest)

  -- The tree of a map whose keys agree up to depth d. Each group is smaller than the whole, so the number of pairs bounds the recursion.
  abbrev pub tree_of : List A → ℕ → ℕ → Option (Tree (Unit {0}) A)
  tree_of pairs P d = tree_within (length pairs) P d pairs
