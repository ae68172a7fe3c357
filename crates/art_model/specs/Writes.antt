-- What writes do to a store's maps: a leaf is linked between two others or unlinked, and a parent has another node in its hole.
use Rattle.std.specs.Prelude.{◌≡◌, ◌≢◌, ℕ, List, [], ◌∷◌, Option, Some, None}
use Rattle.std.specs.FinMap as map
use Rattle.art_inner.specs.Inner.{Inner}
use Rattle.art_inner.specs.InnerChanges.{with_child}
use Rattle.art_nodes.specs.Nodes.{change}
use Rattle.art_parts.specs.Names.{leaf_cmp, inner_cmp}
use Rattle.art_parts.specs.declared.names.LeafPtr.{LeafPtr}
use Rattle.art_parts.specs.declared.names.InnerPtr.{InnerPtr}
use Rattle.art_parts.specs.declared.names.OpaqueNodePtr.{OpaqueNodePtr}
use Rattle.art_parts.specs.declared.leaf.LeafNode.{LeafNode}
use Rattle.art_model.specs.Paths.{Frame}

-- leaves under their names
abbrev pub Leaves : Type 0 → Type 0 → Type 0
Leaves K V = map.FinMap leaf_cmp (LeafNode K V)

module _ {K V : Type 0} where
  -- the leaf of the name, if there is a name, is in the store
  abbrev pub IsThere : Leaves K V → Option LeafPtr → Type 0
  IsThere leaves name = (p : LeafPtr) → name ≡ Some p → map.get leaves p ≢ None

  -- the leaf with another next one
  abbrev pub with_next : Option LeafPtr → LeafNode K V → LeafNode K V
  with_next next leaf = record leaf { next = next }

  -- the leaf with another previous one
  abbrev pub with_previous : Option LeafPtr → LeafNode K V → LeafNode K V
  with_previous previous leaf = record leaf { previous = previous }

  -- the leaves after a change of the one under a name, where there is a name
  abbrev pub change_some : Leaves K V → Option LeafPtr → (LeafNode K V → LeafNode K V) → Leaves K V
  change_some leaves None f = leaves
  change_some leaves (Some name) f = change leaves name f

  -- the leaf before a place has this next one, and the leaf after it this previous one
  abbrev pub with_links_around : Leaves K V → Option LeafPtr → Option LeafPtr → Option LeafPtr → Option LeafPtr → Leaves K V
  with_links_around leaves before after next previous =
      change_some (change_some leaves before (with_next next)) after (with_previous previous)

  -- a new leaf, linked with its neighbours
  unfoldable pub with_leaf : Leaves K V → LeafPtr → LeafNode K V → Leaves K V
  with_leaf leaves name leaf = with_links_around (map.insert leaves name leaf) leaf.previous leaf.next (Some name) (Some name)

  -- a leaf is removed, and its neighbours are linked
  unfoldable pub without_leaf : Leaves K V → LeafPtr → LeafNode K V → Leaves K V
  without_leaf leaves name leaf = map.remove (with_links_around leaves leaf.previous leaf.next leaf.next leaf.previous) name

-- inner nodes under their names
abbrev pub Inners : Type 0
Inners = map.FinMap inner_cmp Inner

-- the name as one of an inner node
abbrev pub as_inner : OpaqueNodePtr → InnerPtr
as_inner name = record { kind = name.kind; slot = name.slot }

-- the innermost node of a path and the byte of its hole, if the path has a node
abbrev pub parent_of : {A : Type 0} → List (Frame OpaqueNodePtr A) → Option (InnerPtr × ℕ)
parent_of [] = None
parent_of (f ∷ fs) = Some (as_inner f.mark, f.byte)

-- the inner nodes where the parent has this child under its byte
abbrev pub with_child_at : Option (InnerPtr × ℕ) → OpaqueNodePtr → Inners → Inners
with_child_at None name inners = inners
with_child_at (Some parent) name inners = change inners parent.0 (with_child parent.1 name)
