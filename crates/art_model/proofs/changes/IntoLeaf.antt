-- A leaf gets another value, or another pair, from the equations of the store's maps: the new layout, and what is touched.
use Rattle.std.proofs.Common.{◌≡◌, ◌≢◌, ℕ, List, [], ◌∷◌, Some, None, refl, ap, sym, ◌∙◌, subst, arith, true, inl, inr, option_map}
use Rattle.std.specs.FinMap.{get}
use Rattle.art_model.specs.Prelude.{with_pair, leaf_name, Nodes, change, LeafPtr, LeafNode, OpaqueNodePtr, IsFront, are_related, are_same, first_of, only_or_count, related_to, with_key, overwrite, overwrite_reply, put, put_reply, replace_key, replace_related, stored_for, leaf, Frame, plug, HoldsPath, leaf_node, node_at, links_at, pair_of, as_inner, Footprint, TouchesAtMost, ChangesInPlace}
use Rattle.art_parts.proofs.NameLemmas.{leaf_cmp_total, leaf_cmp-IsAntisymmetric}
use Rattle.art_nodes.proofs.StoreChanges.{leaf_changed_at, leaf_changed_elsewhere}
use Rattle.art_model.proofs.pairs.Between.{IsLocal, replace_key-between, replace_related-between}
use Rattle.art_model.proofs.stores.Canonical.{IsLaidOut}
use Rattle.art_model.proofs.leaves.Chains.{links_leaf, links_inner}
use Rattle.art_model.proofs.places.InHole.{in_hole, names_around, root_stays, with_key-hole}
use Rattle.art_model.proofs.changes.InPlace.{in_place}
use Rattle.art_model.proofs.changes.Kept.{kept_leaf}
use Rattle.art_model.proofs.keys.Keys.{front_same, not_same}
use Rattle.art_model.proofs.leaves.Leaves.{same_leaf}
use Rattle.art_model.proofs.changes.Overwritten.{LeafAlone, leaf_alone, leaf_alone_keeps, leaf_alone_keeps_leaves, linked_still}
use Rattle.art_model.proofs.places.Paths.{IsHole, related_at}
use Rattle.art_model.proofs.pairs.Puts.{overwrite-new, overwrite_reply-new, put_reply-old, stored_for-old}
use Rattle.art_model.proofs.stores.Stores.{path_holds}
use Rattle.art_model.proofs.stores.Touches.{Touched, touched_none, then_changed, footprint_of}
use Rattle.art_model.proofs.stores.Views.{leaf_or}
use Rattle.art_model.proofs.stores.Writes.{node_at-leaf, parent_there, parent_stays, same_but, same_inner}

-- The leaf in the hole has another pair.
pub record IntoLeaf {K V : Type 0} (bytes : K × V → List ℕ) (P : ℕ) (s t : Nodes K V) (fs : List (Frame OpaqueNodePtr (K × V))) (place : List ℕ)
    (p : LeafPtr) (x : LeafNode K V) (new : K × V) : Type 0 where
  pub hole : IsHole bytes P fs place (leaf (leaf_name p) (pair_of x)) (bytes new)
  pub here : get s.leaves p ≡ Some x
  pub write : LeafNode K V → LeafNode K V
  pub written : write x ≡ with_pair new.0 new.1 x
  pub leaves : t.leaves ≡ change s.leaves p write
  pub inners : t.inners ≡ s.inners

module _ {K V : Type 0} {bytes : K × V → List ℕ} {P : ℕ} {s t : Nodes K V} {root : OpaqueNodePtr} {pairs : List (K × V)}
    {fs : List (Frame OpaqueNodePtr (K × V))} {place : List ℕ} {p : LeafPtr} {x : LeafNode K V} {new : K × V}
    (old : IsLaidOut bytes P (node_at s) (links_at s) root pairs (plug fs (leaf (leaf_name p) (pair_of x))))
    (into : IntoLeaf bytes P s t fs place p x new) where
  leaf_then : get t.leaves p ≡ Some (with_pair new.0 new.1 x)
  leaf_then = ap (λ z. get z p) into.leaves ∙ leaf_changed_at s.leaves p into.write ∙ ap (option_map into.write) into.here ∙ ap Some into.written

  other_leaf : (q : LeafPtr) → q ≢ p → get t.leaves q ≡ get s.leaves q
  other_leaf q off = ap (λ z. get z q) into.leaves ∙ leaf_changed_elsewhere s.leaves p q into.write off

  links_same : (k : OpaqueNodePtr) → links_at t k ≡ links_at s k
  links_same k = elim (leaf_or k) [
    | inl (q, e) ↦ subst (λ (z : OpaqueNodePtr). links_at t z ≡ links_at s z) (sym e) (elim (same_leaf q p) [
      | inl here ↦ subst (λ z. links_at t (leaf_name z) ≡ links_at s (leaf_name z)) (sym here)
          (links_leaf t p (Some (with_pair new.0 new.1 x)) leaf_then ∙ sym (links_leaf s p (Some x) into.here))
      | inr off ↦ links_leaf t q (get s.leaves q) (other_leaf q off)
    ])
    | inr off ↦ links_inner t k off ∙ sym (links_inner s k off)
  ]

  above : HoldsPath (node_at s) (leaf_name p) fs
  above = (path_holds (node_at s) fs (leaf (leaf_name p) (pair_of x)) old.holds).0

  alone : LeafAlone bytes P (node_at s) (node_at t) (links_at t) fs place (leaf (leaf_name p) (pair_of x)) (leaf_name p) new
  alone = record {
    hole = into.hole;
    named = inl (inl refl);
    there = node_at-leaf t p ∙ ap (λ o. option_map leaf_node (option_map pair_of o)) leaf_then;
    parent = parent_stays (node_at s) (node_at t) fs (leaf_name p) above
        (λ k is. same_inner s t k (parent_there bytes P s fs (leaf_name p) above k is).0 (ap (λ z. get z (as_inner k)) into.inners));
    same = same_but s t fs (leaf_name p ∷ []) (λ q off used. ap (option_map pair_of) (other_leaf q (λ e. off (inl (ap leaf_name (sym e))))))
        (λ k kind up off used. ap (λ z. get z (as_inner k)) into.inners);
    linked = linked_still fs (leaf_name p) (pair_of x) new old (λ k i. links_same k);
  }

  -- the same root is canonical for the result of an operation that replaces the leaf's pair by the new one
  pub leaf_changed : (F : List (K × V) → List (K × V)) → IsLocal bytes (bytes new) F → F (pair_of x ∷ []) ≡ new ∷ [] →
      IsLaidOut bytes P (node_at t) (links_at t) root (F pairs) (plug fs (leaf (leaf_name p) new))
  leaf_changed F local its =
      subst (λ r. IsLaidOut bytes P (node_at t) (links_at t) r (F pairs) (plug fs (leaf (leaf_name p) new)))
      (root_stays fs (leaf (leaf_name p) (pair_of x)) old.named) (leaf_alone old alone F local its)

  leaf_print : Footprint s t [] [] (leaf_name p ∷ [])
  leaf_print =
      let used : get s.leaves p ≢ None = λ e. absurd (cc (into.here, e)) in
      footprint_of s t (subst (λ z. Touched s.leaves z [] [] (p ∷ [])) (sym into.leaves)
      (then_changed leaf_cmp_total leaf_cmp-IsAntisymmetric (touched_none s.leaves) p into.write used used))
      (subst (λ z. Touched s.inners z [] [] []) (sym into.inners) (touched_none s.inners)) tt tt tt

  -- one name is changed
  pub leaf_touches : TouchesAtMost 0 0 1 s t
  leaf_touches = ([], [], leaf_name p ∷ [], leaf_print, omega arith, omega arith, omega arith)

  -- and all nodes keep their names
  pub leaf_kept : (F : List (K × V) → List (K × V)) → IsLocal bytes (bytes new) F → F (pair_of x ∷ []) ≡ new ∷ [] →
      ChangesInPlace bytes s t (Some (plug fs (leaf (leaf_name p) (pair_of x)))) (Some (plug fs (leaf (leaf_name p) new)))
  leaf_kept F local its = in_place leaf_print P
      (names_around fs (leaf (leaf_name p) (pair_of x)) (leaf (leaf_name p) new) [] [] (leaf_name p ∷ [])
      (record {
        placed_in = λ k i. absurd i;
        freed_in = λ k i. absurd i;
        changed_in = λ k i. absurd i;
        old_stays = λ k i. inl i;
        new_comes = λ k
            i. inl i;
      }) (in_hole fs (leaf (leaf_name p) (pair_of x))))
      (leaf_alone_keeps_leaves old alone F local its (kept_leaf bytes P (leaf_name p) (pair_of x) new)) (leaf_alone_keeps old alone)

  -- ---- a put of a pair with an equal key: the key stays
  module _ (handed : K × V) (same : bytes (pair_of x) ≡ bytes handed) (alike : bytes new ≡ bytes handed) (kept : new ≡ (x.key, handed.1)) where
    key_same : are_same (bytes handed) (bytes (pair_of x)) ≡ true
    key_same = ap (are_same (bytes handed)) same ∙ front_same (bytes handed)

    replaced_here : replace_key bytes new (pair_of x ∷ []) ≡ new ∷ []
    replaced_here = rw (alike, key_same) refl

    -- the leaf's pair is the one with the key
    leaf_stored : first_of (with_key bytes (bytes handed) pairs) ≡ Some (pair_of x)
    leaf_stored = ap (λ xs. first_of (with_key bytes (bytes handed) xs)) (sym old.pairs_are)
        ∙ ap first_of (with_key-hole bytes P fs place (bytes handed) (leaf (leaf_name p) (pair_of x)) into.hole.path
        (subst (IsFront place) alike into.hole.front)) ∙ rw key_same refl

    -- it is what is stored for the pair
    pub leaf_stored_for : stored_for bytes handed pairs ≡ new
    leaf_stored_for = stored_for-old bytes handed pairs (pair_of x) leaf_stored ∙ sym kept

    -- the pair is put
    pub leaf_inserted : IsLaidOut bytes P (node_at t) (links_at t) root (put bytes handed pairs) (plug fs (leaf (leaf_name p) new))
    leaf_inserted = subst (λ ps. IsLaidOut bytes P (node_at t) (links_at t) root ps (plug fs (leaf (leaf_name p) new)))
        (ap (λ z. replace_key bytes z pairs) (sym leaf_stored_for))
        (leaf_changed (replace_key bytes new) (replace_key-between bytes new) replaced_here)

    pub leaf_insertion_kept : ChangesInPlace bytes s t (Some (plug fs (leaf (leaf_name p) (pair_of x)))) (Some (plug fs (leaf (leaf_name p) new)))
    leaf_insertion_kept = leaf_kept (replace_key bytes new) (replace_key-between bytes new) replaced_here

    -- the key that was passed is returned with the old value
    pub leaf_reply : put_reply bytes handed pairs ≡ Some (handed.0, x.value)
    leaf_reply = put_reply-old bytes handed pairs (pair_of x) leaf_stored

  -- ---- where the keys are related and unequal
  module _ (related : are_related (bytes new) (bytes (pair_of x)) ≡ true) (unequal : bytes new ≢ bytes (pair_of x)) where
    replaced_related : replace_related bytes new (pair_of x ∷ []) ≡ new ∷ []
    replaced_related = rw related refl

    -- no pair has the key
    none_stored : first_of (with_key bytes (bytes new) pairs) ≡ None
    none_stored = ap (λ xs. first_of (with_key bytes (bytes new) xs)) (sym old.pairs_are)
        ∙ ap first_of (with_key-hole bytes P fs place (bytes new) (leaf (leaf_name p) (pair_of x)) into.hole.path into.hole.front)
        ∙ rw (not_same (bytes new) (bytes (pair_of x)) unequal) refl

    -- the new pair replaces the old one
    pub leaf_overwritten : IsLaidOut bytes P (node_at t) (links_at t) root (overwrite bytes new pairs) (plug fs (leaf (leaf_name p) new))
    leaf_overwritten =
        subst (λ ps. IsLaidOut bytes P (node_at t) (links_at t) root ps (plug fs (leaf (leaf_name p) new)))
        (sym (overwrite-new bytes new pairs none_stored))
        (leaf_changed (replace_related bytes new) (replace_related-between bytes new) replaced_related)

    pub leaf_overwrite_kept : ChangesInPlace bytes s t (Some (plug fs (leaf (leaf_name p) (pair_of x)))) (Some (plug fs (leaf (leaf_name p) new)))
    leaf_overwrite_kept = leaf_kept (replace_related bytes new) (replace_related-between bytes new) replaced_related

    -- the old pair is the only one whose key is related
    pub leaf_overwrite_reply : overwrite_reply bytes new pairs ≡ (Some (pair_of x), 0)
    leaf_overwrite_reply = overwrite_reply-new bytes new pairs none_stored ∙ ap (λ xs. only_or_count (related_to bytes (bytes new) xs)) (sym old.pairs_are)
        ∙ ap only_or_count (related_at bytes P fs place (bytes new) (leaf (leaf_name p) (pair_of x)) into.hole.path into.hole.front) ∙ rw related refl
