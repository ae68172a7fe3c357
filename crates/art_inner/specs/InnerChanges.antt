-- What the writing calls of a store make of an inner node.
use Rattle.std.specs.Prelude.{ℕ}
use Rattle.art_inner.specs.Inner.{Inner, put_child, remove_child}
use Rattle.art_parts.specs.Headers.{Prefix}
use Rattle.art_parts.specs.declared.names.OpaqueNodePtr.{OpaqueNodePtr}

-- the node with a child set under a byte
abbrev pub with_child : ℕ → OpaqueNodePtr → Inner → Inner
with_child byte child node = record node { children = put_child node.children byte child }

-- the node without the child under a byte
abbrev pub without_child : ℕ → Inner → Inner
without_child byte node = record node { children = remove_child node.children byte }

-- the node with another header
abbrev pub with_header : Prefix → Inner → Inner
with_header prefix node = record node { prefix = prefix }
