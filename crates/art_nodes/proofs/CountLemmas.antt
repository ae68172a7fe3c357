-- A store has as many leaves as its slab has values, and as many inner nodes of a kind as the slab of that kind.
use Rattle.std.proofs.Common.{◌≡◌, ℕ, Bool, true, false, cond, List, Option, None, is_some, eqb, eqb-true, refl, sym, ap, ◌∙◌}
use Rattle.std.specs.Prelude.{count_by, ◌==◌}
use Rattle.std.specs.FinMap.{from_entries, get, get-from_entries, get-retain_keys, len, same_map}
use Rattle.slab.specs.Slab.{get as slab_get, slab_len}
use Rattle.art_inner.specs.Inner.{Inner}
use Rattle.art_nodes.specs.Nodes.{of_kind}
use Rattle.art_nodes.specs.StoreView.{leaves_of, inners_of, kind_entries, slab_of}
use Rattle.art_nodes.proofs.SlotMaps.{len-slots}
use Rattle.art_nodes.proofs.StoreLemmas.{find_kind, there_of}
use Rattle.art_parts.specs.Kinds.{kind_index}
use Rattle.art_parts.specs.Names.{inner_cmp}
use Rattle.art_parts.specs.declared.leaf.LeafNode.{LeafNode}
use Rattle.art_parts.specs.declared.names.InnerPtr.{InnerPtr}
use Rattle.art_parts.specs.declared.names.NodeType.{NodeType}
use Rattle.art_nodes.specs.declared.store.InnerSlabs.{InnerSlabs}
use Rattle.art_parts.proofs.NameLemmas.{leaf_cmp_total, inner_cmp_total, leaf_cmp-IsAntisymmetric, inner_cmp-IsAntisymmetric, same_kind}

pub len-leaves_of : {K V : Type 0} (slots : List (Option (LeafNode K V))) → len (leaves_of slots) ≡ count_by is_some slots
unfolding leaves_of
len-leaves_of slots = len-slots leaf_cmp-IsAntisymmetric (λ p. p.slot) (λ at. record { slot = at }) (λ _. refl) leaf_cmp_total 0 slots

len-kind_entries : (kind : NodeType) (slots : List (Option Inner)) → len (from_entries {R = inner_cmp} (kind_entries kind slots)) ≡ count_by is_some slots
len-kind_entries kind slots = len-slots inner_cmp-IsAntisymmetric (λ p. p.slot) (λ at. record { kind = kind; slot = at }) (λ _. refl) inner_cmp_total 0 slots

module _ {P : ℕ} (s : InnerSlabs P) (kind : NodeType) where
  -- the nodes of a kind are those in its slab
  of_kind-entries : of_kind kind (inners_of s) ≡ from_entries (kind_entries kind (slab_of kind s).slots)
  of_kind-entries = same_map inner_cmp_total inner_cmp-IsAntisymmetric _ _ (λ q.
      get-retain_keys (inners_of s) (λ name. kind_index name.kind == kind_index kind) q
      (λ x tie. ap (λ name. kind_index name.kind == kind_index kind) (sym (inner_cmp-IsAntisymmetric q x tie)))
      ∙ in_slab q (eqb (kind_index q.kind) (kind_index kind)) refl
      ∙ sym (get-from_entries inner_cmp_total _ q ∙ find_kind kind (slab_of kind s).slots q))
    where
      in_slab : (q : InnerPtr) (b : Bool) → eqb (kind_index q.kind) (kind_index kind) ≡ b →
          cond b (get (inners_of s) q) None ≡ cond b (slab_get (slab_of kind s) q.slot) None
      in_slab q true e = there_of s q kind (same_kind _ _ (eqb-true _ _ e))
      in_slab q false e = refl

  pub len-of_kind : (own : NodeType) → kind ≡ own → len (of_kind kind (inners_of s)) ≡ slab_len (slab_of own s)
  len-of_kind own is = ap len of_kind-entries ∙ len-kind_entries kind (slab_of kind s).slots ∙ ap (λ k. slab_len (slab_of k s)) is
