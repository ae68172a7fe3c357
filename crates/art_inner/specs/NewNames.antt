-- New names of leaves by a table.
use Rattle.std.specs.Prelude.{ℕ, List, slice_index_or}
use Rattle.art_parts.specs.declared.names.LeafPtr.{LeafPtr}
use Rattle.art_parts.specs.declared.names.NodeType.{NodeType}
use Rattle.art_inner.specs.InnerRenamed.{renamed_in}

-- the name that a table of slots has for a leaf: the entry for its slot, and past the end of the table the same name
abbrev pub new_name : List ℕ → LeafPtr → LeafPtr
new_name table name = record { slot = slice_index_or table name.slot name.slot }

-- the slot in a node's name, where leaves were renamed by a table
abbrev pub new_slot : List ℕ → NodeType → ℕ → ℕ
new_slot table kind slot = (renamed_in (new_name table) kind slot).slot
