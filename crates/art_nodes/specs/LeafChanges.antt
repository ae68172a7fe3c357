-- What the writing calls of a store make of a leaf.
use Rattle.std.specs.Prelude.{Option}
use Rattle.art_parts.specs.declared.names.LeafPtr.{LeafPtr}
use Rattle.art_parts.specs.declared.leaf.LeafNode.{LeafNode}

-- the leaf between these two
abbrev pub with_links : {K V : Type 0} → Option LeafPtr → Option LeafPtr → LeafNode K V → LeafNode K V
with_links previous next leaf = record leaf { previous = previous; next = next }

-- the leaf with another pair
abbrev pub with_pair : {K V : Type 0} → K → V → LeafNode K V → LeafNode K V
with_pair key value leaf = record leaf { key = key; value = value }

-- the leaf with another value
abbrev pub with_value : {K V : Type 0} → V → LeafNode K V → LeafNode K V
with_value value leaf = record leaf { value = value }
