-- A map without some names: what it has under a name, and how such maps result from writes.
use Rattle.std.proofs.Common.{◌≡◌, List, [], ◌∷◌, ◌++◌, None, refl, ap, sym, ◌∙◌, ◌⊎◌, inl, inr, subst, Ordering}
use Rattle.std.specs.Cmp.{IsTotalOrder}
use Rattle.std.specs.FinMap.{FinMap, IsAntisymmetric, get, insert, remove, same_map}
use Rattle.art_model.specs.Prelude.{change, IsIn, without}
use Rattle.art_parts.proofs.NameLemmas.{same_or_not}
use Rattle.art_nodes.proofs.StoreChanges.{elsewhere, gone, gone_elsewhere, changed_elsewhere}
use Rattle.art_model.proofs.lists.Lists.{in_left, in_right, in_either}
use Rattle.art_model.proofs.stores.Touches.{still_gone}

module _ {N : Type 0} {R : N → N → Ordering} (order : IsTotalOrder R) (same : IsAntisymmetric R) where
  -- a name is in the list, or not
  in_or : (ns : List N) (q : N) → IsIn q ns ⊎ (IsIn q ns → ⊥)
  in_or [] q = inr (λ i. i)
  in_or (n ∷ ns) q = elim (same_or_not same order n q) [
    | inl e ↦ inl (inl e)
    | inr off ↦ elim (in_or ns q) [ inl i ↦ inl (inr i) | inr non ↦ inr (λ (i : IsIn q (n ∷ ns)). elim i [ inl e ↦ off e | inr j ↦ non j ]) ]
  ]

module _ {N X : Type 0} {R : N → N → Ordering} (order : IsTotalOrder R) (same : IsAntisymmetric R) where
  -- what is not in the map is not in it without other names
  still_none : (m : FinMap R X) (ns : List N) (q : N) → get m q ≡ None → get (without m ns) q ≡ None
  still_none m [] q h = h
  still_none m (n ∷ ns) q h = still_none (remove m n) ns q (still_gone order same m n q h)

  -- nothing is under one of the names
  pub without_in : (m : FinMap R X) (ns : List N) (q : N) → IsIn q ns → get (without m ns) q ≡ None
  without_in m [] q i = absurd i
  without_in m (n ∷ ns) q (inl e) = still_none (remove m n) ns q (ap (get (remove m n)) (sym e) ∙ gone order same m n)
  without_in m (n ∷ ns) q (inr i) = without_in (remove m n) ns q i

  -- under another name is what was there
  pub without_off : (m : FinMap R X) (ns : List N) (q : N) → (IsIn q ns → ⊥) → get (without m ns) q ≡ get m q
  without_off m [] q off = refl
  without_off m (n ∷ ns) q off = without_off (remove m n) ns q (λ i. off (inr i)) ∙ gone_elsewhere order same m n q (λ e. off (inl (sym e)))

  -- the map that has nothing under the names, and under the others the same
  pub is_without : (m k : FinMap R X) (ns : List N) → ((q : N) → IsIn q ns → get k q ≡ None) →
      ((q : N) → (IsIn q ns → ⊥) → get k q ≡ get m q) → k ≡ without m ns
  is_without m k ns none rest = same_map order same k (without m ns) (λ q. elim (in_or order same ns q) [
    | inl i ↦ none q i ∙ sym (without_in m ns q i)
    | inr off ↦ rest q off ∙ sym (without_off m ns q off)
  ])

  -- names that are removed one list after the other, in any order
  pub without_both : (a b c : FinMap R X) (ns ks : List N) → a ≡ without b ns → b ≡ without c ks → a ≡ without c (ns ++ ks)
  without_both a b c ns ks e f = is_without c a (ns ++ ks)
      (λ q i. elim (in_either q ns ks i) [
        | inl j ↦ ap (λ z. get z q) e ∙ without_in b ns q j
        | inr j ↦ ap (λ z. get z q) e ∙ still_none b ns q (ap (λ z. get z q) f ∙ without_in c ks q j)
      ])
      (λ q off. ap (λ z. get z q) e ∙ without_off b ns q (λ i. off (in_left q ns ks i)) ∙ ap (λ z. get z q) f
      ∙ without_off c ks q (λ i. off (in_right q ns ks i)))

  -- a new name
  pub without_new : (m : FinMap R X) (n : N) (x : X) → get m n ≡ None → m ≡ without (insert m n x) (n ∷ [])
  without_new m n x free = is_without (insert m n x) m (n ∷ [])
      (λ q (i : IsIn q (n ∷ [])). elim i [ inl e ↦ ap (get m) (sym e) ∙ free | inr j ↦ absurd j ])
      (λ q off. sym (elsewhere order same m n q x (λ e. off (inl (sym e)))))

  -- a change under one of the names
  pub without_changed : (m : FinMap R X) (n : N) (f : X → X) (ns : List N) → IsIn n ns → without (change m n f) ns ≡ without m ns
  without_changed m n f ns i = is_without m (without (change m n f) ns) ns
      (λ q j. without_in (change m n f) ns q j)
      (λ q off. without_off (change m n f) ns q off ∙ changed_elsewhere order same m n q f (λ e. off (subst (λ z. IsIn z ns) (sym e) i)))
