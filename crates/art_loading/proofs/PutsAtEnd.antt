-- a pair that comes after all others
use Rattle.std.proofs.Common.{◌≡◌, ℕ, List, [], ◌∷◌, ◌++◌, Some, refl, ap, sym, ◌∙◌, subst, true, false, not, inl, inr, ◌⊎◌, append_assoc, append-nil}
use Rattle.std.specs.List.{AllByRecursion as Each}
use Rattle.std.proofs.lemmas.Bool.{true≢false}
use Rattle.std.proofs.lemmas.List.{same_from_push}
use Rattle.art_loading.proofs.StepsDown.{HasPush, push_view}
use Rattle.art_model.specs.Prelude.{Precedes, is_before, are_same, leaf_names, HasLastLeaf, add_in_order, first_of, last_of, put, remove_key, with_key, Frame, IsPath, plug, leaves_before, leaves_after, pairs_before, pairs_after, AreRadix, IsRadix, pairs_below, pairs_of, leaf, Subtrees, child, no_child}
use Rattle.art_model.proofs.keys.KeyLaws.{order_is_strict}
use Rattle.art_model.proofs.keys.Keys.{before_apart, not_same}
use Rattle.art_model.proofs.lists.Filters.{filter_all}
use Rattle.art_model.proofs.lists.Lists.{Each-weaker, Each-right, filter_none}
use Rattle.art_model.proofs.pairs.Puts.{put-new}
use Rattle.art_model.proofs.places.Paths.{leaf_names-plug, pairs_of-plug, path_after, path_before, radix_plug}
use Rattle.art_model.proofs.radix.Rebuild.{radix_some}

module _ {K V : Type 0} (bytes : K × V → List ℕ) (new : K × V) where
  abbrev IsLess : K × V → Type 0
  IsLess x = is_before (bytes x) (bytes new) ≡ true

  unequal : (x : K × V) → IsLess x → are_same (bytes new) (bytes x) ≡ false
  unequal x less = not_same (bytes new) (bytes x)
      (λ e. true≢false (sym less ∙ ap (λ k. is_before k (bytes new)) (sym e) ∙ order_is_strict (bytes new)))

  at_end : (pairs : List (K × V)) → Each IsLess pairs → add_in_order bytes new pairs ≡ pairs ++ new ∷ []
  at_end [] less = refl
  at_end (x ∷ pairs) less = rw (before_apart (bytes x) (bytes new) less.0) (ap (λ l. x ∷ l) (at_end pairs less.1))

  -- it is put at the end
  pub put_last : (pairs : List (K × V)) → Each (λ x. is_before (bytes x) (bytes new) ≡ true) pairs → put bytes new pairs ≡ pairs ++ new ∷ []
  put_last pairs less =
      let none : with_key bytes (bytes new) pairs ≡ [] = filter_none (λ x. are_same (bytes new) (bytes x)) pairs
      (Each-weaker IsLess (λ x. are_same (bytes new) (bytes x) ≡ false) unequal pairs less) in
      let all : remove_key bytes (bytes new) pairs ≡ pairs = filter_all (λ x. not (are_same (bytes new) (bytes x))) pairs
      (Each-weaker IsLess (λ x. not (are_same (bytes new) (bytes x)) ≡ true) (λ x l. ap not (unequal x l)) pairs less) in
      put-new bytes new pairs (ap first_of none) ∙ ap (add_in_order bytes new) all ∙ at_end pairs less

pub last_of_push : {X : Type 0} (xs : List X) (x : X) → last_of (xs ++ x ∷ []) ≡ Some x
last_of_push [] x = refl
last_of_push (y ∷ []) x = refl
last_of_push (y ∷ z ∷ xs) x = last_of_push (z ∷ xs) x

module _ {N A : Type 0} where
  -- nothing is after such a path
  pub none_after : (fs : List (Frame N A)) → Each (λ f. f.right ≡ no_child) fs → pairs_after fs ≡ []
  none_after [] all = refl
  none_after (f ∷ fs) all = rw (all.0, none_after fs all.1) refl

  pub pairs_with_last : (fs : List (Frame N A)) (n : N) (x : A) → Each (λ f. f.right ≡ no_child) fs → pairs_of (plug fs (leaf n x)) ≡ pairs_before fs ++ x ∷ []
  pairs_with_last fs n x all =
      pairs_of-plug fs (leaf n x) ∙ ap (λ l. (pairs_before fs ++ x ∷ []) ++ l) (none_after fs all) ∙ append-nil (pairs_before fs ++ x ∷ [])

  -- nor a leaf
  no_leaf_after : (fs : List (Frame N A)) → Each (λ f. f.right ≡ no_child) fs → leaves_after fs ≡ []
  no_leaf_after [] all = refl
  no_leaf_after (f ∷ fs) all = rw (all.0, no_leaf_after fs all.1) refl

  pub names_with_last : (fs : List (Frame N A)) (n : N) (x : A) → Each (λ f. f.right ≡ no_child) fs →
      leaf_names (plug fs (leaf n x)) ≡ leaves_before fs ++ n ∷ []
  names_with_last fs n x all =
      leaf_names-plug fs (leaf n x) ∙ ap (λ l. (leaves_before fs ++ n ∷ []) ++ l) (no_leaf_after fs all) ∙ append-nil (leaves_before fs ++ n ∷ [])

  -- it ends with the leaf
  pub ends_with_last : (fs : List (Frame N A)) (n : N) (x : A) → Each (λ f. f.right ≡ no_child) fs → HasLastLeaf (plug fs (leaf n x)) n
  ends_with_last fs n x all = record {
    name_is = ap last_of (names_with_last fs n x all) ∙ last_of_push (leaves_before fs) n;
    pair = x;
    pair_is = ap last_of (pairs_with_last fs n x all) ∙ last_of_push (pairs_before fs) x;
    has = record { path = fs; whole = refl };
  }

module _ {N A : Type 0} (bytes : A → List ℕ) (P : ℕ) where
  -- the others are before the last one
  pub before_last : (fs : List (Frame N A)) (n : N) (x : A) → IsRadix bytes P [] (plug fs (leaf n x)) →
      Each (λ y. is_before (bytes y) (bytes x) ≡ true) (pairs_before fs)
  before_last fs n x radix =
      let (place, path, own) = radix_plug bytes P fs (leaf n x) radix in
      Each-weaker (λ y. Precedes (bytes y) (bytes x)) (λ y. is_before (bytes y) (bytes x) ≡ true) (λ y h. h.0) (pairs_before fs)
      (path_before bytes P fs place (bytes x) path own)

  no_pairs : (front : List ℕ) (cs : Subtrees N A) → AreRadix bytes P front cs → pairs_below cs ≡ [] → cs ≡ no_child
  no_pairs front no_child radix none = refl
  no_pairs front (child b t cs) radix none =
      let (x, xs, is) = radix_some bytes P t (front ++ b ∷ []) radix.0 in
      let some : x ∷ (xs ++ pairs_below cs) ≡ [] = sym (ap (λ l. l ++ pairs_below cs) is) ∙ none in
      absurd cc

  no_right : (f : Frame N A) (fs : List (Frame N A)) (place : List ℕ) → IsPath bytes P place (f ∷ fs) → pairs_below f.right ++ pairs_after fs ≡ [] →
      f.right ≡ no_child
  no_right f fs place (outer, part, e, head, two, up, l, r, path) none = no_pairs (outer ++ part) f.right r (first (pairs_below f.right) none)
    where
      first : (xs : List A) → xs ++ pairs_after fs ≡ [] → xs ≡ []
      first [] e = refl
      first (x ∷ xs) e = absurd cc

  -- where a pair is the last one, its leaf is the last child of its parent
  pub last_child : (f : Frame N A) (fs : List (Frame N A)) (n : N) (x : A) (pairs : List A) → IsRadix bytes P [] (plug (f ∷ fs) (leaf n x)) →
      pairs_of (plug (f ∷ fs) (leaf n x)) ≡ pairs ++ x ∷ [] → f.right ≡ no_child
  last_child f fs n x pairs radix are =
      let (place, path, own) = radix_plug bytes P (f ∷ fs) (leaf n x) radix in
      no_right f fs place path (none (push_view (pairs_after (f ∷ fs))) (path_after bytes P (f ∷ fs) place (bytes x) path own))
    where
      none : (pairs_after (f ∷ fs) ≡ []) ⊎ HasPush (pairs_after (f ∷ fs)) → Each (λ y. Precedes (bytes x) (bytes y)) (pairs_after (f ∷ fs)) →
          pairs_after (f ∷ fs) ≡ []
      none (inl e) after = e
      none (inr h) after =
          let all : Each (λ y. Precedes (bytes x) (bytes y)) (h.front ++ h.last ∷ []) = subst (Each (λ y. Precedes (bytes x) (bytes y))) h.is after in
          let one : Precedes (bytes x) (bytes h.last) = (Each-right (λ y. Precedes (bytes x) (bytes y)) h.front (h.last ∷ []) all).0 in
          let same : h.last ≡ x = (same_from_push ((pairs_before (f ∷ fs) ++ x ∷ []) ++ h.front) pairs h.last x
          (append_assoc (pairs_before (f ∷ fs) ++ x ∷ []) h.front (h.last ∷ [])
          ∙ ap (λ l. (pairs_before (f ∷ fs) ++ x ∷ []) ++ l) (sym h.is) ∙ sym (pairs_of-plug (f ∷ fs) (leaf n x)) ∙ are)).1 in
          absurd (true≢false (sym one.0 ∙ ap (λ z. is_before (bytes x) (bytes z)) same ∙ order_is_strict (bytes x)))
