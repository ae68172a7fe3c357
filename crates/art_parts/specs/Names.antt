-- Names of leaves and of inner nodes among the names of nodes.
use Rattle.std.specs.Prelude.{◌≢◌, ⊤, ℕ, List, ◌++◌, codes, decimal}
use Rattle.std.specs.Ordering.{nat_cmp, on, then_cmp}
use Rattle.std.specs.declared.cmp.Ordering.{Ordering}
use Rattle.std.specs.declared.cmp.Ordering.TheVariants.{Less, Greater}
use Rattle.art_parts.specs.Kinds.{kind_index, kind_text}
use Rattle.art_parts.specs.declared.names.NodeType.{NodeType}
use Rattle.art_parts.specs.declared.names.NodeType.TheVariants.{Leaf}
use Rattle.art_parts.specs.declared.names.LeafPtr.{LeafPtr}
use Rattle.art_parts.specs.declared.names.InnerPtr.{InnerPtr}
use Rattle.art_parts.specs.declared.names.OpaqueNodePtr.{OpaqueNodePtr}
use Rattle.art_parts.specs.declared.names.NodePtr.{NodePtr}
use Rattle.art_parts.specs.declared.names.NodePtr.TheVariants as split

-- a leaf's name, as the name of a node
abbrev pub leaf_name : LeafPtr → OpaqueNodePtr
leaf_name p = record { kind = Leaf; slot = p.slot }

-- an inner node's name, as the name of a node
abbrev pub inner_name : InnerPtr → OpaqueNodePtr
inner_name p = record { kind = p.kind; slot = p.slot }

-- the name, with whether it is a leaf's
abbrev pub name_in : NodePtr → OpaqueNodePtr
name_in (split.Leaf p) = leaf_name p
name_in (split.Inner p) = inner_name p

-- an inner node's name has an inner kind
abbrev pub IsProper : NodePtr → Type 0
IsProper (split.Leaf p) = ⊤
IsProper (split.Inner p) = p.kind ≢ Leaf

-- the order of kinds
abbrev pub kind_cmp : NodeType → NodeType → Ordering
kind_cmp = on kind_index nat_cmp

-- the order of leaves' names
abbrev pub leaf_cmp : LeafPtr → LeafPtr → Ordering
leaf_cmp = on (λ p. p.slot) nat_cmp

-- the order of inner nodes' names
abbrev pub inner_cmp : InnerPtr → InnerPtr → Ordering
inner_cmp = then_cmp (on (λ p. kind_index p.kind) nat_cmp) (on (λ p. p.slot) nat_cmp)

-- the order of nodes' names
abbrev pub name_cmp : OpaqueNodePtr → OpaqueNodePtr → Ordering
name_cmp = then_cmp (on (λ p. kind_index p.kind) nat_cmp) (on (λ p. p.slot) nat_cmp)

-- the order of names by whether they are leaves': leaves come first
abbrev pub split_cmp : NodePtr → NodePtr → Ordering
split_cmp (split.Leaf p) (split.Leaf q) = leaf_cmp p q
split_cmp (split.Leaf p) (split.Inner q) = Less
split_cmp (split.Inner p) (split.Leaf q) = Greater
split_cmp (split.Inner p) (split.Inner q) = inner_cmp p q

-- how a node's name is displayed: its kind, and its slot in decimal
abbrev pub name_text : OpaqueNodePtr → List ℕ
name_text p = kind_text p.kind ++ codes "#" ++ decimal p.slot
