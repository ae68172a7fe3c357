-- A change in the hole of a path: the names of the whole trees, the root, and the pairs with a key.
use Rattle.std.proofs.Common.{◌≡◌, ℕ, List, [], ◌∷◌, ◌++◌, map, refl, ap, sym, ◌∙◌, subst, append-nil, false, ◌⊎◌, inl, inr}
use Rattle.std.proofs.lemmas.List.Elements.{filter-append}
use Rattle.art_model.specs.Prelude.{leaf_name, inner_name, LeafPtr, InnerPtr, OpaqueNodePtr, IsFront, are_same, Precedes, with_key, Tree, pairs_of, Frame, plug, IsPath, pairs_before, pairs_after, names_before, names_after, name_of, names_of, names_below, IsIn}
use Rattle.art_model.proofs.changes.InPlace.{AreNames}
use Rattle.art_model.proofs.keys.Keys.{related_sym, same_related}
use Rattle.art_model.proofs.lists.Lists.{Each-append, Each-weaker, each_from, each_in, each_map, filter_none, in_left, in_right, in_either}
use Rattle.art_model.proofs.places.Paths.{root_with, names_of-plug, pairs_of-plug, path_before, path_after}
use Rattle.art_model.proofs.stores.Touches.{both_names}
use Rattle.art_model.proofs.stores.Writes.{parents}

module _ {N A : Type 0} (fs : List (Frame N A)) where
  -- a name in the hole is one of the whole
  pub in_hole : (t : Tree N A) (k : N) → IsIn k (names_of t) → IsIn k (names_of (plug fs t))
  in_hole t k i =
      subst (IsIn k) (sym (names_of-plug fs t))
      (in_left k (names_before fs ++ names_of t) (names_after fs) (in_right k (names_before fs) (names_of t) i))

  -- and so is one before the hole
  in_before : (t : Tree N A) (k : N) → IsIn k (names_before fs) → IsIn k (names_of (plug fs t))
  in_before t k i =
      subst (IsIn k) (sym (names_of-plug fs t))
      (in_left k (names_before fs ++ names_of t) (names_after fs) (in_left k (names_before fs) (names_of t) i))

  in_after : (t : Tree N A) (k : N) → IsIn k (names_after fs) → IsIn k (names_of (plug fs t))
  in_after t k i = subst (IsIn k) (sym (names_of-plug fs t)) (in_right k (names_before fs ++ names_of t) (names_after fs) i)

  -- a name of the whole is in the hole, or it is one of each tree with another in the hole
  in_whole : (t u : Tree N A) (k : N) → IsIn k (names_of (plug fs t)) → IsIn k (names_of t) ⊎ IsIn k (names_of (plug fs u))
  in_whole t u k i = elim (in_either k (names_before fs ++ names_of t) (names_after fs) (subst (IsIn k) (names_of-plug fs t) i)) [
    | inr after ↦ inr (in_after u k after)
    | inl rest ↦ elim (in_either k (names_before fs) (names_of t) rest) [ inl before ↦ inr (in_before u k before) | inr own ↦ inl own ]
  ]

  -- the names of the whole differ as those in the hole do
  pub names_around : (t u : Tree N A) (placed freed changed : List N) → AreNames (names_of t) (names_of u) placed freed [] →
      ((n : N) → IsIn n changed → IsIn n (names_of (plug fs t))) →
      AreNames (names_of (plug fs t)) (names_of (plug fs u)) placed freed changed
  names_around t u placed freed changed own changed_in = record {
    placed_in = λ n i. in_hole u n (own.placed_in n i);
    freed_in = λ n i. in_hole t n (own.freed_in n i);
    changed_in = changed_in;
    old_stays = λ n i. elim (in_whole t u n i) [
      | inl hole ↦ elim (own.old_stays n hole) [ inl stays ↦ inl (in_hole u n stays) | inr goes ↦ inr goes ]
      | inr whole ↦ inl whole
    ];
    new_comes = λ n i. elim (in_whole u t n i) [
      | inl hole ↦ elim (own.new_comes n hole) [ inl was ↦ inl (in_hole t n was) | inr comes ↦ inr comes ]
      | inr whole ↦ inl whole
    ];
  }

  -- what keeps the name of what was in the hole keeps the root's name
  pub root_stays : (t : Tree N A) {root : N} → name_of (plug fs t) ≡ root → root_with fs root (name_of t) ≡ root
  root_stays t {root} named = go fs named
    where
      go : (gs : List (Frame N A)) → name_of (plug gs t) ≡ root → root_with gs root (name_of t) ≡ root
      go [] e = e
      go (g ∷ gs) e = refl

-- ---- what is changed was in the tree

-- the parent, and inner nodes of the hole
pub parents_in : {A : Type 0} (fs : List (Frame OpaqueNodePtr A)) (t : Tree OpaqueNodePtr A) (touched : List InnerPtr) →
    ((p : InnerPtr) → IsIn p touched → IsIn (inner_name p) (names_of t)) → (p : InnerPtr) → IsIn p (parents fs ++ touched) →
    IsIn (inner_name p) (names_of (plug fs t))
parents_in [] t touched own p i = own p i
parents_in (f ∷ fs) t touched own p (inl e) =
    in_before (f ∷ fs) t (inner_name p) (in_right (inner_name p) (names_before fs) (f.mark ∷ names_below f.left) (inl (ap inner_name e)))
parents_in (f ∷ fs) t touched own p (inr i) = in_hole (f ∷ fs) t (inner_name p) (own p i)

-- leaves and inner nodes together
pub both_in : (names : List OpaqueNodePtr) (leaves : List LeafPtr) (inners : List InnerPtr) →
    ((p : LeafPtr) → IsIn p leaves → IsIn (leaf_name p) names) → ((p : InnerPtr) → IsIn p inners → IsIn (inner_name p) names) →
    (k : OpaqueNodePtr) → IsIn k (both_names leaves inners) → IsIn k names
both_in names leaves inners of_leaves of_inners k i =
    each_in (λ n. IsIn n names) k (both_names leaves inners) (Each-append (λ n. IsIn n names) (map leaf_name leaves) (map inner_name inners)
    (each_map leaf_name (λ n. IsIn n names) leaves (each_from (λ p. IsIn (leaf_name p) names) leaves of_leaves))
    (each_map inner_name (λ n. IsIn n names) inners (each_from (λ p. IsIn (inner_name p) names) inners of_inners))) i

-- ---- pairs

-- the pair with a key that leads to the hole is in the hole
pub with_key-hole : {N A : Type 0} (bytes : A → List ℕ) (P : ℕ) (fs : List (Frame N A)) (place key : List ℕ) (t : Tree N A) →
    IsPath bytes P place fs → IsFront place key → with_key bytes key (pairs_of (plug fs t)) ≡ with_key bytes key (pairs_of t)
with_key-hole bytes P fs place key t path front =
    let before =
    filter_none (λ x. are_same key (bytes x)) (pairs_before fs)
    (Each-weaker (λ x. Precedes (bytes x) key) (λ x. are_same key (bytes x) ≡ false)
    (λ x h. same_related key (bytes x) (related_sym key (bytes x) ∙ h.1)) (pairs_before fs) (path_before bytes P fs place key path front)) in
    let after =
    filter_none (λ x. are_same key (bytes x)) (pairs_after fs)
    (Each-weaker (λ x. Precedes key (bytes x)) (λ x. are_same key (bytes x) ≡ false) (λ x h. same_related key (bytes x) h.1)
    (pairs_after fs) (path_after bytes P fs place key path front)) in
    rw pairs_of-plug (simp (filter-append, before, after) (append-nil (with_key bytes key (pairs_of t))))
