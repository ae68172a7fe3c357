-- what a check has met, as a map from names to places
use Rattle.std.proofs.Common.{◌≡◌, ◌≢◌, ℕ, zero, suc, true, false, eqb, ◌&&◌, List, [], ◌∷◌, ◌++◌, length, slice_get, refl, ap, ap₂, sym, ◌∙◌, arith, eq-eqb, eqb-true, Some, None, ◌⊎◌, inl, inr, Less, Equal, Greater, is_eq, nat_cmp}
use Rattle.std.proofs.lemmas.Bool.{cases_Bool, cases_order, ne_eqb, false≢true}
use Rattle.std.specs.Cmp.{nat_cmp_is}
use Rattle.std.specs.List.{AllByRecursion as Each}
use Rattle.art_parts.specs.Codes.{kind_at, kind_at-index}
use Rattle.art_model.specs.Prelude.{kind_index, NodeType, Node4, Node16, Node48, Node256, Leaf, OpaqueNodePtr, InnerPtr, IsIn}
use Rattle.art_parts.specs.contracts.names.OpaqueNodePtrOrd.TheImpl as derived
use Rattle.art_parts.specs.contracts.names.OpaqueNodePtrPartialEq.TheImpl as derived_eq
use Rattle.art_parts.specs.contracts.names.InnerPtrOrd.TheImpl as derived_inner
use Rattle.art_model.proofs.lists.Lists.{Each-append, each_in, each_from, in_left, in_right}
use Rattle.art_model.proofs.lists.Pairwises.{Pairwise-append}
use Rattle.art_checking.specs.Marks.{same_name, place_under}
use Rattle.art_checking.specs.Meetings.{Places, IsMet, Meets}

-- ---- the order of names distinguishes them

pub is_eq_nat : (i j : ℕ) → is_eq (nat_cmp i j) ≡ eqb i j
is_eq_nat i j = elim (cases_order i j) [
  | inl e ↦ ap is_eq (sym (nat_cmp_is i j Equal e)) ∙ sym (eq-eqb i j e)
  | inr (inl l) ↦ ap is_eq (sym (nat_cmp_is i j Less l)) ∙ sym (ne_eqb i j (λ e. omega arith))
  | inr (inr l) ↦ ap is_eq (sym (nat_cmp_is i j Greater l)) ∙ sym (ne_eqb i j (λ e. omega arith))
]

is_eq_same : (n k : OpaqueNodePtr) → is_eq (derived.cmp-value.it n k) ≡ same_name n k
is_eq_same n k = go n.kind k.kind n.slot k.slot
  where
    go : (a b : NodeType) (i j : ℕ) → is_eq (derived.cmp-value.it (record { kind = a; slot = i }) (record { kind = b; slot = j })) ≡ same_name
        (record { kind = a; slot = i }) (record { kind = b; slot = j })
    go Node4 Node4 i j = is_eq_nat i j
    go Node16 Node16 i j = is_eq_nat i j
    go Node48 Node48 i j = is_eq_nat i j
    go Node256 Node256 i j = is_eq_nat i j
    go Leaf Leaf i j = is_eq_nat i j
    go _ _ i j = refl

pub eq_same : (n k : OpaqueNodePtr) → derived_eq.eq-value.it n k ≡ same_name n k
eq_same n k = go n.kind k.kind n.slot k.slot
  where
    go : (a b : NodeType) (i j : ℕ) → derived_eq.eq-value.it (record { kind = a; slot = i }) (record { kind = b; slot = j }) ≡ same_name
        (record { kind = a; slot = i }) (record { kind = b; slot = j })
    go Node4 Node4 i j = refl
    go Node16 Node16 i j = refl
    go Node48 Node48 i j = refl
    go Node256 Node256 i j = refl
    go Leaf Leaf i j = refl
    go _ _ i j = refl

is_eq_inner : (p q : InnerPtr) → is_eq (derived_inner.cmp-value.it p q)
    ≡ same_name (record { kind = p.kind; slot = p.slot }) (record { kind = q.kind; slot = q.slot })
is_eq_inner p q = is_eq_same (record { kind = p.kind; slot = p.slot }) (record { kind = q.kind; slot = q.slot })

pub same_self : (n : OpaqueNodePtr) → same_name n n ≡ true
same_self n = rw (eq-eqb (kind_index n.kind) (kind_index n.kind) refl, eq-eqb n.slot n.slot refl) refl

pub same_is : (n k : OpaqueNodePtr) → same_name n k ≡ true → n ≡ k
same_is n k e = go (cases_Bool (eqb (kind_index n.kind) (kind_index k.kind))) e
  where
    go : (eqb (kind_index n.kind) (kind_index k.kind) ≡ true) ⊎ (eqb (kind_index n.kind) (kind_index k.kind) ≡ false) → same_name n k ≡ true → n ≡ k
    go (inl h) e =
        let kinds : n.kind ≡ k.kind = sym (kind_at-index n.kind) ∙ ap kind_at (eqb-true (kind_index n.kind) (kind_index k.kind) h) ∙ kind_at-index k.kind in
        let slots : n.slot ≡ k.slot = eqb-true n.slot k.slot (sym (ap (λ b. b && eqb n.slot k.slot) h) ∙ e) in
        ap₂ (λ a i. let r : OpaqueNodePtr = record { kind = a; slot = i } in r) kinds slots
    go (inr h) e = absurd (false≢true (sym (ap (λ b. b && eqb n.slot k.slot) h) ∙ e))

pub same_inner : (p q : InnerPtr) → is_eq (derived_inner.cmp-value.it p q) ≡ true → p ≡ q
same_inner p q e =
    ap (λ n. let r : InnerPtr = record { kind = n.kind; slot = n.slot } in r)
    (same_is (record { kind = p.kind; slot = p.slot }) (record { kind = q.kind; slot = q.slot }) (sym (is_eq_inner p q) ∙ e))

same_apart : (n k : OpaqueNodePtr) → n ≢ k → same_name n k ≡ false
same_apart n k off = elim (cases_Bool (same_name n k)) [ inl e ↦ absurd (off (same_is n k e)) | inr e ↦ e ]

-- ---- the name met last
-- it is at the end
pub place_here : (met : List (OpaqueNodePtr × List ℕ)) (name : OpaqueNodePtr) (place : List ℕ) →
    place_under name (slice_get (met ++ (name, place) ∷ []) (length met)) ≡ Some place
place_here [] name place = rw (same_self name) refl
place_here (m ∷ met) name place = place_here met name place

-- and changes nothing for other names, whatever their numbers
pub place_elsewhere : (met : List (OpaqueNodePtr × List ℕ)) (name : OpaqueNodePtr) (place : List ℕ) (n : OpaqueNodePtr) → n ≢ name → (i : ℕ) →
    place_under n (slice_get (met ++ (name, place) ∷ []) i) ≡ place_under n (slice_get met i)
place_elsewhere [] name place n off zero = rw (same_apart name n (λ e. off (sym e))) refl
place_elsewhere [] name place n off (suc i) = refl
place_elsewhere (m ∷ met) name place n off zero = refl
place_elsewhere (m ∷ met) name place n off (suc i) = place_elsewhere met name place n off i

-- ---- meetings follow one another
pub meets_none : (f : Places) → Meets f f []
meets_none f = record { fresh = tt; met = tt; distinct = tt; elsewhere = λ n off. refl }

pub meets_one : (f g : Places) (name : OpaqueNodePtr) (place : List ℕ) → f name ≡ None → IsMet f g name place → Meets f g (name ∷ [])
meets_one f g name place free is = record {
  fresh = (free, tt);
  met = ((λ e. absurd (let h = is.here in cc)), tt);
  distinct = (tt, tt);
  elsewhere = λ n off. is.elsewhere n (λ e. off (inl (sym e)));
}

pub meets_then : (f g h : Places) (ns ms : List OpaqueNodePtr) → Meets f g ns → Meets g h ms → Meets f h (ns ++ ms)
meets_then f g h ns ms first second =
    let apart : (n m : OpaqueNodePtr) → IsIn n ns → IsIn m ms → n ≢ m =
    λ n m i j e. each_in (λ k. g k ≢ None) n ns first.met i (ap g e ∙ each_in (λ k. g k ≡ None) m ms second.fresh j) in record {
      fresh = Each-append (λ n. f n ≡ None) ns ms first.fresh (each_from (λ m. f m ≡ None) ms
          (λ m j. sym (first.elsewhere m (λ i. apart m m i j refl)) ∙ each_in (λ k. g k ≡ None) m ms second.fresh j));
      met = Each-append (λ n. h n ≢ None) ns ms (each_from (λ n. h n ≢ None) ns
          (λ n i e. each_in (λ k. g k ≢ None) n ns first.met i (sym (second.elsewhere n (λ j. apart n n i j refl)) ∙ e))) second.met;
      distinct = Pairwise-append ◌≢◌ ns ms first.distinct second.distinct
          (each_from (λ n. Each (λ m. n ≢ m) ms) ns (λ n i. each_from (λ m. n ≢ m) ms (λ m j. apart n m i j)));
      elsewhere = λ n off. second.elsewhere n (λ j. off (in_right n ns ms j)) ∙ first.elsewhere n (λ i. off (in_left n ns ms i));
    }

-- what was met stays met
pub stays_met : (f g : Places) (ns : List OpaqueNodePtr) → Meets f g ns → (n : OpaqueNodePtr) → f n ≢ None → g n ≢ None
stays_met f g ns meets n met e = met (sym (meets.elsewhere n (λ i. met (each_in (λ k. f k ≡ None) n ns meets.fresh i))) ∙ e)
