-- An inner node whose leaves were renamed.
use Rattle.std.specs.Prelude.{ℕ, map}
use Rattle.art_inner.specs.Inner.{Inner, Children}
use Rattle.art_parts.specs.Names.{leaf_name}
use Rattle.art_parts.specs.declared.names.LeafPtr.{LeafPtr}
use Rattle.art_parts.specs.declared.names.NodeType.{NodeType}
use Rattle.art_parts.specs.declared.names.NodeType.TheVariants.{Leaf}
use Rattle.art_parts.specs.declared.names.OpaqueNodePtr.{OpaqueNodePtr}

module _ (rename : LeafPtr → LeafPtr) where
  -- the name by its kind and slot: a leaf's is renamed, and an inner node's stays
  abbrev pub renamed_in : NodeType → ℕ → OpaqueNodePtr
  renamed_in Leaf slot = leaf_name (rename (record { slot = slot }))
  renamed_in kind slot = record { kind = kind; slot = slot }

  -- a node's name, where leaves were renamed
  abbrev pub child_renamed : OpaqueNodePtr → OpaqueNodePtr
  child_renamed name = renamed_in name.kind name.slot

  -- the children under the same bytes, renamed
  abbrev pub children_renamed : Children → Children
  children_renamed children = map (λ child. (child.0, child_renamed child.1)) children

  -- an inner node whose leaves were renamed
  abbrev pub inner_renamed : Inner → Inner
  inner_renamed node = record node { children = children_renamed node.children }
