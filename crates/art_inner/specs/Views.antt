-- The kind of an inner node, and the node as contracts see it whatever its kind.
use Rattle.std.specs.Prelude.{ℕ}
use Rattle.art_inner.specs.Inner.{Inner}
use Rattle.art_parts.specs.declared.names.NodeType.{NodeType}
use Rattle.art_parts.specs.declared.names.NodeType.TheVariants as kind
use Rattle.art_inner.specs.declared.any.AnyInner.{AnyInner}
use Rattle.art_inner.specs.declared.any.AnyInner.TheVariants as any
use Rattle.art_inner.specs.declared.any.InnerRefOf.{InnerRefOf}
use Rattle.art_inner.specs.declared.any.InnerRefOf.TheVariants as ref

module _ {P : ℕ} where
  -- the kind of an inner node
  abbrev pub any_kind : AnyInner P → NodeType
  any_kind (any.Node4 n) = kind.Node4
  any_kind (any.Node16 n) = kind.Node16
  any_kind (any.Node48 n) = kind.Node48
  any_kind (any.Node256 n) = kind.Node256

  -- an inner node, as a contract sees it
  abbrev pub any_view : AnyInner P → Inner
  any_view (any.Node4 n) = n
  any_view (any.Node16 n) = n
  any_view (any.Node48 n) = n
  any_view (any.Node256 n) = n

-- a reference to an inner node, as a contract sees it
abbrev pub Ref : Type 0
Ref = InnerRefOf Inner Inner Inner Inner

-- the kind of the node that is referred to
abbrev pub ref_kind : Ref → NodeType
ref_kind (ref.Node4 n) = kind.Node4
ref_kind (ref.Node16 n) = kind.Node16
ref_kind (ref.Node48 n) = kind.Node48
ref_kind (ref.Node256 n) = kind.Node256

-- the node that is referred to, as a contract sees it
abbrev pub ref_view : Ref → Inner
ref_view (ref.Node4 n) = n.now
ref_view (ref.Node16 n) = n.now
ref_view (ref.Node48 n) = n.now
ref_view (ref.Node256 n) = n.now
