-- The kinds of nodes.
use Rattle.std.specs.Prelude.{ℕ, List, Option, Some, None, codes}
use Rattle.art_parts.specs.declared.names.NodeType.{NodeType}
use Rattle.art_parts.specs.declared.names.NodeType.TheVariants as kind

-- the place of a kind in the order of the kinds
abbrev pub kind_index : NodeType → ℕ
kind_index kind.Node4 = 0
kind_index kind.Node16 = 1
kind_index kind.Node48 = 2
kind_index kind.Node256 = 3
kind_index kind.Leaf = 4

-- how many children a node of a kind has room for
abbrev pub kind_capacity : NodeType → ℕ
kind_capacity kind.Node4 = 4
kind_capacity kind.Node16 = 16
kind_capacity kind.Node48 = 48
kind_capacity kind.Node256 = 256
kind_capacity kind.Leaf = 0

-- how many children a node of a kind has at least, in a well-formed tree
abbrev pub kind_least : NodeType → ℕ
kind_least kind.Node4 = 2
kind_least kind.Node16 = 5
kind_least kind.Node48 = 17
kind_least kind.Node256 = 49
kind_least kind.Leaf = 0

-- the next kind with room for more children, if there is one
abbrev pub next_larger : NodeType → Option NodeType
next_larger kind.Node4 = Some kind.Node16
next_larger kind.Node16 = Some kind.Node48
next_larger kind.Node48 = Some kind.Node256
next_larger kind.Node256 = None
next_larger kind.Leaf = None

-- the next kind with room for fewer children, if there is one
abbrev pub next_smaller : NodeType → Option NodeType
next_smaller kind.Node4 = None
next_smaller kind.Node16 = Some kind.Node4
next_smaller kind.Node48 = Some kind.Node16
next_smaller kind.Node256 = Some kind.Node48
next_smaller kind.Leaf = None

-- the kind with room for more children; the largest is mapped to itself
abbrev pub larger_kind : NodeType → NodeType
larger_kind kind.Node4 = kind.Node16
larger_kind kind.Node16 = kind.Node48
larger_kind kind.Node48 = kind.Node256
larger_kind kind.Node256 = kind.Node256
larger_kind kind.Leaf = kind.Leaf

-- the kind with room for fewer children; the smallest is mapped to itself
abbrev pub smaller_kind : NodeType → NodeType
smaller_kind kind.Node4 = kind.Node4
smaller_kind kind.Node16 = kind.Node4
smaller_kind kind.Node48 = kind.Node16
smaller_kind kind.Node256 = kind.Node48
smaller_kind kind.Leaf = kind.Leaf

-- how a kind is displayed
abbrev pub kind_text : NodeType → List ℕ
kind_text kind.Node4 = codes "Node4"
kind_text kind.Node16 = codes "Node16"
kind_text kind.Node48 = codes "Node48"
kind_text kind.Node256 = codes "Node256"
kind_text kind.Leaf = codes "Leaf"
