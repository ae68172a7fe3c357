-- What a call of a closure did with the pair of a leaf.
use Rattle.std.specs.Prelude.{◌≡◌, Some}
use Rattle.std.specs.Borrow.{MutBor}
use Rattle.std.specs.FinMap as map
use Rattle.std.specs.Fn.{Called, Mut}
use Rattle.art_parts.specs.declared.names.LeafPtr.{LeafPtr}
use Rattle.art_parts.specs.declared.leaf.LeafNode.{LeafNode}
use Rattle.art_nodes.specs.Lends.{with_leaf_value}
use Rattle.art_nodes.specs.Nodes.{Nodes}
use denote.Ref.{Bor}

module _ {F K V R : Type 0} (g : Mut F (Bor K × (MutBor V × Unit {0})) (R × (MutBor V × Unit {0}))) where
  -- a call of f at a `&` to the key and a `&mut` to the value may return r, and leave another value and the closure next
  pub record CalledOnPair (f : F) (pair : K × V) (r : R) (next : F) (value : V) : Type 0 where
    pub key_shown : Bor K
    pub value_shown : MutBor V
    pub shows : (key_shown.now ≡ pair.0) × (value_shown.now ≡ pair.1)
    pub left : MutBor V
    pub called : Called g f (key_shown, (value_shown, tt)) (r, (left, tt)) next
    pub leaves : left.now ≡ value

  -- such a call at the pair of this leaf left another value, which the leaf now has
  abbrev pub CallsOnLeaf : LeafPtr → F → Nodes K V → R → F → Nodes K V → Type 0
  CallsOnLeaf leaf f s r next t =
      (node : LeafNode K V) × (value : V) × (map.get s.leaves leaf ≡ Some node) × CalledOnPair f (node.key, node.value) r next value ×
      (t ≡ with_leaf_value s leaf value)
