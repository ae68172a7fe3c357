-- The lines of a tree's nodes: each node's line, and after that of an inner node those of its children's trees.
use Rattle.std.specs.Prelude.{ℕ, zero, suc, List, [], ◌++◌, length, codes, Option, Some, None}
use Rattle.std.specs.Fmt.{decimal}
use Rattle.art_parts.specs.Kinds.{kind_text}
use Rattle.art_engine.specs.KeyTexts.{key_word}
use Rattle.art_model.specs.Layouts.{Node, inner_node, leaf_node}
use Rattle.art_model.specs.Pairs.{of_key}
use Rattle.art_model.specs.Radix.{bytes_of}
use Rattle.art_model.specs.Trees.{NodeHeader, Subtrees, Tree, child, inner, leaf, no_child, tree_of}
use Rattle.art_engine.specs.KeptKeys.{Key, key_bytes}
use Rattle.art_engine.specs.NodeWalks.{one_deeper}
use Rattle.art_engine.specs.Texts.{entry_text}

-- two spaces for each inner node above
abbrev pub indent : ℕ → List ℕ
indent zero = []
indent (suc depth) = codes "  " ++ indent depth

-- the position of a node: below so many inner nodes, and under which byte, or as the root
abbrev pub line_start : ℕ → Option ℕ → List ℕ
line_start depth None = indent depth ++ codes "*: "
line_start depth (Some byte) = indent depth ++ (decimal byte ++ codes ": ")

-- a leaf has its pair
abbrev pub leaf_text : Key × ℕ → List ℕ
leaf_text pair = codes "Leaf " ++ entry_text pair

-- an inner node has its kind, the length of its prefix, the stored bytes of it, and so many children
abbrev pub inner_text : NodeHeader → ℕ → List ℕ
inner_text h count =
    kind_text h.kind ++ (codes " prefix " ++ (decimal h.length_of ++ (codes " stored " ++ (key_word h.stored ++ (codes " children " ++ decimal count)))))

-- what is written of a node
abbrev pub node_text : {N : Type 0} → Node N (Key × ℕ) → List ℕ
node_text (leaf_node pair) = leaf_text pair
node_text (inner_node h slots) = inner_text h (length slots)

-- a line: the position of a node, and what is written of it
abbrev pub line_at : ℕ → Option ℕ → List ℕ → List ℕ
line_at depth byte text = line_start depth byte ++ (text ++ codes "\n")

-- the lines of a tree: its root's, and then those of what is below it
abbrev mutual
  pub tree_text : {N : Type 0} → ℕ → Option ℕ → Tree N (Key × ℕ) → List ℕ
  tree_text depth byte (leaf n pair) = line_at depth byte (leaf_text pair)
  tree_text depth byte (inner n h cs) = line_at depth byte (inner_text h (length (bytes_of cs))) ++ children_text (one_deeper depth) cs

  pub children_text : {N : Type 0} → ℕ → Subtrees N (Key × ℕ) → List ℕ
  children_text depth no_child = []
  children_text depth (child byte t cs) = tree_text depth (Some byte) t ++ children_text depth cs

-- the lines of a tree, if there is one
abbrev pub lines_of : Option (Tree (Unit {0}) (Key × ℕ)) → List ℕ
lines_of None = codes "empty\n"
lines_of (Some tree) = tree_text 0 None tree

-- the lines of the tree of pairs, where P bytes of a prefix are stored
abbrev pub nodes_text : ℕ → List (Key × ℕ) → List ℕ
nodes_text P pairs = lines_of (tree_of (of_key key_bytes) pairs P 0)
