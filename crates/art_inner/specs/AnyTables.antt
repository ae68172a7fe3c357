-- The kind of a table of children, and the children whatever their kind.
use Rattle.art_inner.specs.Inner.{Children}
use Rattle.art_parts.specs.declared.names.NodeType.{NodeType}
use Rattle.art_parts.specs.declared.names.NodeType.TheVariants as kind
use Rattle.art_inner.specs.declared.child_table.AnyTable.{AnyTable}
use Rattle.art_inner.specs.declared.child_table.AnyTable.TheVariants as table

-- the kind of the node that has the table
abbrev pub table_kind : AnyTable → NodeType
table_kind (table.Node4 t) = kind.Node4
table_kind (table.Node16 t) = kind.Node16
table_kind (table.Node48 t) = kind.Node48
table_kind (table.Node256 t) = kind.Node256

-- its children
abbrev pub table_children : AnyTable → Children
table_children (table.Node4 t) = t
table_children (table.Node16 t) = t
table_children (table.Node48 t) = t
table_children (table.Node256 t) = t
