-- A leaf that is freed.
use Rattle.std.proofs.Common.{◌≡◌, ◌≢◌, ◌-◌, suc, [], ◌∷◌, Option, Some, None, IsSome, refl, ap, sym, ◌∙◌, subst, arith, cond, is_some, true, inl, inr, option_map}
use Rattle.std.specs.FinMap as map
use Rattle.std.proofs.lemmas.Bool.{false≢true}
use Rattle.art_model.specs.Prelude.{leaf_name, leaf_cmp, Nodes, LeafPtr, LeafNode, Frees, content_at, held_leaf, held_inner}
use Rattle.art_parts.proofs.NameLemmas.{leaf_cmp_total}
use Rattle.art_nodes.proofs.StoreChanges.{leaf_gone, leaf_gone_elsewhere}
use Rattle.art_model.proofs.stores.Views.{held_in_inner, leaf_or}

module _ {K V : Type 0} {s t : Nodes K V} where
  -- a leaf
  pub leaf_freed : (p : LeafPtr) → t.leaves ≡ map.remove s.leaves p → t.inners ≡ s.inners → Frees (leaf_name p ∷ []) s t
  leaf_freed p leaves inners = record {
    beside = λ k off none. elim (leaf_or k) [
      | inl (q, e) ↦ subst (λ z. content_at t z ≡ content_at s z) (sym e) (ap (option_map held_leaf)
          (ap (λ m. map.get m q) leaves ∙ leaf_gone_elsewhere s.leaves p q (λ f. off (inl (sym (e ∙ ap leaf_name f))))))
      | inr kind ↦ held_in_inner t k.kind k.slot kind
          ∙ ap (λ m. option_map held_inner (map.get m (record { kind = k.kind; slot = k.slot }))) inners
          ∙ sym (held_in_inner s k.kind k.slot kind)
    ];
    gone = λ k i none. elim i [
      | inl e ↦ subst (λ z. content_at t z ≡ None) e
          (ap (option_map held_leaf) (ap (λ m. map.get m p) leaves ∙ leaf_gone s.leaves p))
      | inr j ↦ absurd j
    ];
    taken = λ k i none. absurd i;
  }

-- a map without one of its leaves has fewer
pub leaf_less : {K V : Type 0} (m : map.FinMap leaf_cmp (LeafNode K V)) (p : LeafPtr) → IsSome (map.get m p) → suc (map.len (map.remove m p)) ≡ map.len m
leaf_less m p some =
    let there : is_some (map.get m p) ≡ true = go (map.get m p) some in
    let e : map.len (map.remove m p) ≡ map.len m - 1 = map.len-remove leaf_cmp_total m p ∙ ap (λ b. cond b (map.len m - 1) (map.len m)) there in
    let held_some : map.len m ≢ 0 =
    λ z. false≢true (sym (ap is_some (map.get-empty leaf_cmp p)) ∙ ap (λ n. is_some (map.get n p)) (sym (map.empty_of_len m z)) ∙ there) in
    omega arith
  where
    go : {X : Type 0} (o : Option X) → IsSome o → is_some o ≡ true
    go None h = absurd cc
    go (Some x) h = refl
