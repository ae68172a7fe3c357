-- The codes of names, headers and leaves.
use Rattle.std.specs.Prelude.{◌≡◌, ℕ, zero, suc, List, Option, refl}
use Rattle.std.specs.Coded.{Coded, code_by, coded×, coded_ℕ, coded_list, coded_option}
use Rattle.art_parts.specs.Headers.{Prefix}
use Rattle.art_parts.specs.Kinds.{kind_index}
use Rattle.art_parts.specs.declared.names.NodeType.{NodeType}
use Rattle.art_parts.specs.declared.names.NodeType.TheVariants.{Node4, Node16, Node48, Node256, Leaf}
use Rattle.art_parts.specs.declared.names.LeafPtr.{LeafPtr}
use Rattle.art_parts.specs.declared.names.InnerPtr.{InnerPtr}
use Rattle.art_parts.specs.declared.names.OpaqueNodePtr.{OpaqueNodePtr}
use Rattle.art_parts.specs.declared.leaf.LeafNode.{LeafNode}

abbrev pub kind_at : ℕ → NodeType
kind_at zero = Node4
kind_at (suc zero) = Node16
kind_at (suc (suc zero)) = Node48
kind_at (suc (suc (suc zero))) = Node256
kind_at (suc (suc (suc (suc n)))) = Leaf

pub kind_at-index : (k : NodeType) → kind_at (kind_index k) ≡ k
kind_at-index Node4 = refl
kind_at-index Node16 = refl
kind_at-index Node48 = refl
kind_at-index Node256 = refl
kind_at-index Leaf = refl

abbrev pub kind_code : Coded NodeType
kind_code = code_by ℕ coded_ℕ kind_index kind_at kind_at-index

abbrev pub leaf_ptr_code : Coded LeafPtr
leaf_ptr_code = code_by ℕ coded_ℕ (λ p. p.slot) (λ n. record { slot = n }) (λ _. refl)

abbrev pub inner_ptr_code : Coded InnerPtr
inner_ptr_code = code_by (NodeType × ℕ) (coded× kind_code coded_ℕ) (λ p. (p.kind, p.slot)) (λ p. record { kind = p.0; slot = p.1 }) (λ _. refl)

abbrev pub name_code : Coded OpaqueNodePtr
name_code = code_by (NodeType × ℕ) (coded× kind_code coded_ℕ) (λ p. (p.kind, p.slot)) (λ p. record { kind = p.0; slot = p.1 }) (λ _. refl)

abbrev pub prefix_code : Coded Prefix
prefix_code = code_by (ℕ × List ℕ) (coded× coded_ℕ (coded_list coded_ℕ)) (λ p. (p.len, p.stored)) (λ p. record { len = p.0; stored = p.1 }) (λ _. refl)

module _ {K V : Type 0} where
  abbrev pub leaf_code : Coded K → Coded V → Coded (LeafNode K V)
  leaf_code k v =
      code_by ((K × V) × (Option LeafPtr × Option LeafPtr))
      (coded× (coded× k v) (coded× (coded_option leaf_ptr_code) (coded_option leaf_ptr_code)))
      (λ n. ((n.key, n.value), (n.previous, n.next)))
      (λ p. record { key = p.0.0; value = p.0.1; previous = p.1.0; next = p.1.1 })
      (λ _. refl)
