-- The two directions from a leaf: which one a byte lies in, and the leaf with another one on that side.
use Rattle.std.specs.Prelude.{ℕ, if◌then◌else◌, nat_lt, Option}
use Rattle.art_parts.specs.declared.leaf.LeafNode.{LeafNode}
use Rattle.art_parts.specs.declared.names.LeafPtr.{LeafPtr}
use Rattle.art_model.specs.Writes.{with_next, with_previous}
use Rattle.art_copying.specs.declared.links.Direction.{Direction}
use Rattle.art_copying.specs.declared.links.Direction.TheVariants.{Before, After}

-- the side of a child's byte on which that of a new one is
abbrev pub side_of : ℕ → ℕ → Direction
side_of new other = if nat_lt other new then After else Before

-- the leaf with another one on a side
abbrev pub with_beside : {K V : Type 0} → Direction → Option LeafPtr → LeafNode K V → LeafNode K V
with_beside Before other = with_previous other
with_beside After other = with_next other
