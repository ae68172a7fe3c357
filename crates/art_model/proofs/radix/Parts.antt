-- parts of a tree: its leaves whose pairs pass a test
use Rattle.std.proofs.Common.{◌≡◌, ℕ, List, [], ◌∷◌, ◌++◌, map, filter, refl, ap, ap₂, sym, ◌∙◌, subst, append-nil, Bool, true, false}
use Rattle.std.specs.List.{AllByRecursion as Each}
use Rattle.std.proofs.lemmas.List.{map-append}
use Rattle.std.proofs.lemmas.List.Elements.{filter-append}
use Rattle.art_model.specs.Prelude.{IsFront, entries_of, leaf_names, leaves_where, Frame, plug, pairs_before, pairs_after, leaves_before, leaves_after, AreRadix, bytes_of, pairs_of, pairs_below, Tree, inner, Subtrees, child, no_child}
use Rattle.art_model.proofs.lists.Filters.{filter_all}
use Rattle.art_model.proofs.lists.Lists.{Each-append, Each-weaker, each_unmap, filter_none}
use Rattle.art_model.proofs.places.Paths.{entries_before, entries_after, entries_of-plug, pairs_of-leaves, leaf_names-leaves}
use Rattle.art_model.proofs.radix.Rebuild.{radix_way}

module _ {N A : Type 0} where
  -- the pairs of the entries before a hole, and of those after it
  pairs_before-leaves : (fs : List (Frame N A)) → map (λ e. e.0) (entries_before fs) ≡ pairs_before fs
  pairs_before-leaves [] = refl
  pairs_before-leaves (f ∷ fs) =
      map-append (λ e. e.0) (entries_before fs) (entries_of (inner f.mark f.header f.left))
      ∙ ap₂ (λ (xs ys : List A). xs ++ ys) (pairs_before-leaves fs) (pairs_of-leaves (inner f.mark f.header f.left))

  pairs_after-leaves : (fs : List (Frame N A)) → map (λ e. e.0) (entries_after fs) ≡ pairs_after fs
  pairs_after-leaves [] = refl
  pairs_after-leaves (f ∷ fs) =
      map-append (λ e. e.0) (entries_of (inner f.mark f.header f.right)) (entries_after fs)
      ∙ ap₂ (λ (xs ys : List A). xs ++ ys) (pairs_of-leaves (inner f.mark f.header f.right)) (pairs_after-leaves fs)

  -- what holds of each pair holds of the pair of each entry
  module _ (Q : A → Type 0) where
    each_entry : (t : Tree N A) → Each Q (pairs_of t) → Each (λ (e : A × N). Q e.0) (entries_of t)
    each_entry t h = each_unmap (λ (e : A × N). e.0) Q (entries_of t) (subst (Each Q) (sym (pairs_of-leaves t)) h)

    each_entry_before : (fs : List (Frame N A)) → Each Q (pairs_before fs) → Each (λ (e : A × N). Q e.0) (entries_before fs)
    each_entry_before fs h = each_unmap (λ (e : A × N). e.0) Q (entries_before fs) (subst (Each Q) (sym (pairs_before-leaves fs)) h)

    each_entry_after : (fs : List (Frame N A)) → Each Q (pairs_after fs) → Each (λ (e : A × N). Q e.0) (entries_after fs)
    each_entry_after fs h = each_unmap (λ (e : A × N). e.0) Q (entries_after fs) (subst (Each Q) (sym (pairs_after-leaves fs)) h)

  -- the names of the entries before a hole, and of those after it
  leaves_before-leaves : (fs : List (Frame N A)) → map (λ e. e.1) (entries_before fs) ≡ leaves_before fs
  leaves_before-leaves [] = refl
  leaves_before-leaves (f ∷ fs) =
      map-append (λ e. e.1) (entries_before fs) (entries_of (inner f.mark f.header f.left))
      ∙ ap₂ (λ (xs ys : List N). xs ++ ys) (leaves_before-leaves fs) (leaf_names-leaves (inner f.mark f.header f.left))

  leaves_after-leaves : (fs : List (Frame N A)) → map (λ e. e.1) (entries_after fs) ≡ leaves_after fs
  leaves_after-leaves [] = refl
  leaves_after-leaves (f ∷ fs) =
      map-append (λ e. e.1) (entries_of (inner f.mark f.header f.right)) (entries_after fs)
      ∙ ap₂ (λ (xs ys : List N). xs ++ ys) (leaf_names-leaves (inner f.mark f.header f.right)) (leaves_after-leaves fs)

  module _ (test : A → Bool) where
    -- where all pass before the hole and none after it
    pub where_before : (fs : List (Frame N A)) (t : Tree N A) → Each (λ x. test x ≡ true) (pairs_before fs) → Each (λ x. test x ≡ false) (pairs_after fs) →
        leaves_where test (plug fs t) ≡ leaves_before fs ++ leaves_where test t
    where_before fs t before after =
        let low = filter_all (λ (e : A × N). test e.0) (entries_before fs) (each_entry_before (λ x. test x ≡ true) fs before) in
        let high = filter_none (λ (e : A × N). test e.0) (entries_after fs) (each_entry_after (λ x. test x ≡ false) fs after) in
        ap (λ es. map (λ (e : A × N). e.1) (filter (λ (e : A × N). test e.0) es)) (entries_of-plug fs t)
        ∙ ap (map (λ (e : A × N). e.1)) (simp (filter-append, low, high, append-nil))
        ∙ map-append (λ e. e.1) (entries_before fs) (filter (λ (e : A × N). test e.0) (entries_of t))
        ∙ ap (λ ns. ns ++ leaves_where test t) (leaves_before-leaves fs)

    -- where none passes before the hole and all after it
    pub where_after : (fs : List (Frame N A)) (t : Tree N A) → Each (λ x. test x ≡ false) (pairs_before fs) → Each (λ x. test x ≡ true) (pairs_after fs) →
        leaves_where test (plug fs t) ≡ leaves_where test t ++ leaves_after fs
    where_after fs t before after =
        let low = filter_none (λ (e : A × N). test e.0) (entries_before fs) (each_entry_before (λ x. test x ≡ false) fs before) in
        let high = filter_all (λ (e : A × N). test e.0) (entries_after fs) (each_entry_after (λ x. test x ≡ true) fs after) in
        ap (λ es. map (λ (e : A × N). e.1) (filter (λ (e : A × N). test e.0) es)) (entries_of-plug fs t)
        ∙ ap (map (λ (e : A × N). e.1)) (simp (filter-append, low, high))
        ∙ map-append (λ e. e.1) (filter (λ (e : A × N). test e.0) (entries_of t)) (entries_after fs)
        ∙ ap (λ ns. leaves_where test t ++ ns) (leaves_after-leaves fs)

    -- where none outside the hole passes, those that pass are in it
    pub where_in_hole : (fs : List (Frame N A)) (t : Tree N A) → Each (λ x. test x ≡ false) (pairs_before fs) → Each (λ x. test x ≡ false) (pairs_after fs) →
        leaves_where test (plug fs t) ≡ leaves_where test t
    where_in_hole fs t before after =
        let low = filter_none (λ (e : A × N). test e.0) (entries_before fs) (each_entry_before (λ x. test x ≡ false) fs before) in
        let high = filter_none (λ (e : A × N). test e.0) (entries_after fs) (each_entry_after (λ x. test x ≡ false) fs after) in
        ap (λ es. map (λ (e : A × N). e.1) (filter (λ (e : A × N). test e.0) es)) (entries_of-plug fs t)
        ∙ ap (map (λ (e : A × N). e.1)) (simp (filter-append, low, high, append-nil))

    -- all of them, or none
    pub where_all : (t : Tree N A) → Each (λ x. test x ≡ true) (pairs_of t) → leaves_where test t ≡ leaf_names t
    where_all t all =
        ap (map (λ (e : A × N). e.1)) (filter_all (λ (e : A × N). test e.0) (entries_of t) (each_entry (λ x. test x ≡ true) t all)) ∙ leaf_names-leaves t

    pub where_none : (t : Tree N A) → Each (λ x. test x ≡ false) (pairs_of t) → leaves_where test t ≡ []
    where_none t none = ap (map (λ (e : A × N). e.1)) (filter_none (λ (e : A × N). test e.0) (entries_of t) (each_entry (λ x. test x ≡ false) t none))

module _ {N A : Type 0} (bytes : A → List ℕ) (P : ℕ) (Q : A → Type 0) where
  -- what holds of all pairs that start with the bytes of a child holds of all pairs below the children
  pub each_below : (cs : Subtrees N A) (front : List ℕ) → AreRadix bytes P front cs →
      Each (λ c. (x : A) → IsFront (front ++ c ∷ []) (bytes x) → Q x) (bytes_of cs) → Each Q (pairs_below cs)
  each_below no_child front radix h = tt
  each_below (child b t cs) front radix h = Each-append Q (pairs_of t) (pairs_below cs)
      (Each-weaker (λ x. IsFront (front ++ b ∷ []) (bytes x)) Q h.0 (pairs_of t) (radix_way bytes P t (front ++ b ∷ []) radix.0))
      (each_below cs front radix.1 h.1)
