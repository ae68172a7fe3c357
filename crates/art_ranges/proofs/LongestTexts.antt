-- The last of the texts that are prefixes of a query.
use Rattle.std.proofs.Common.{◌≡◌, ℕ, List, [], ◌∷◌, ◌++◌, length, take, filter, refl, ap, ap₂, sym, ◌∙◌, subst, arith, append-nil, append_assoc, Option, Some, None, Bool, true, false}
use Rattle.std.specs.List.{AllByRecursion as Each}
use Rattle.std.proofs.lemmas.Bool.{true≢false}
use Rattle.std.proofs.lemmas.List.{take_at}
use Rattle.std.proofs.lemmas.List.Elements.{filter-append}
use Rattle.art_nodes.specs.Nodes.{Nodes}
use Rattle.art_parts.specs.declared.names.LeafPtr.{LeafPtr}
use Rattle.art_parts.specs.declared.names.OpaqueNodePtr.{OpaqueNodePtr}
use Rattle.art_model.specs.Canonical.{IsCanonicalTree}
use Rattle.art_parts.specs.Keys.{IsFront, Precedes, common_front, is_front}
use Rattle.art_model.specs.Lookups.{HasLeaf, FindsLast}
use Rattle.art_model.specs.Pairs.{IsMap, last_of, without_last}
use Rattle.art_model.specs.Paths.{pairs_before, pairs_after}
use Rattle.art_model.specs.Radix.{pairs_of}
use Rattle.art_model.specs.Trees.{Tree, leaf}
use Rattle.art_model.proofs.keys.Fronts.{shared_whole}
use Rattle.art_model.proofs.keys.KeyLaws.{common_front_is_longest}
use Rattle.art_model.proofs.keys.Keys.{front_from, front_is}
use Rattle.art_model.proofs.lists.Filters.{Each-both}
use Rattle.art_model.proofs.lists.Lists.{Each-left, Each-right, Each-weaker, common_front_left, common_front_right, filter_none, front_trans}
use Rattle.art_model.proofs.lists.Pairwises.{Pairwise-after}
use Rattle.art_model.proofs.places.Paths.{pairs_of-plug}
use Rattle.art_model.proofs.stores.Canonical.{tree_radix}
use Rattle.art_model.specs.Texts.{AreEnded, IsEndedBy, texts_in_front, text_of}
use Rattle.art_ranges.specs.ShortTexts.{IsSought}
use Rattle.art_ranges.specs.TextWays.{EndsAt, EndsWalk, IsCovering, leaf_of_end}
use Rattle.art_reading.specs.declared.lookup.descent.End.{End}
use Rattle.art_reading.specs.declared.lookup.descent.End.TheVariants.{Last}
use Rattle.art_ranges.specs.declared.texts.TextEnd.{TextEnd}
use Rattle.art_ranges.specs.declared.texts.TextEnd.TheVariants.{Passed, Whole}
use Rattle.art_model.proofs.keys.Texts.{ended_text, fronts_first, not_front, true_front}

-- two tests that agree
pub same_front : (a b c : List ℕ) → (IsFront a b → IsFront a c) → (IsFront a c → IsFront a b) → is_front a b ≡ is_front a c
same_front a b c to from = go (is_front a b) refl
  where
    go : (t : Bool) → is_front a b ≡ t → t ≡ is_front a c
    go true e = sym (true_front a c (to (front_from a b e)))
    go false e = sym (not_front a c (λ f. true≢false (sym (true_front a b (from f)) ∙ e)))

pub filter_same : {A : Type 0} (test other : A → Bool) (xs : List A) → Each (λ x. test x ≡ other x) xs → filter test xs ≡ filter other xs
filter_same test other [] h = refl
filter_same test other (x ∷ xs) h = rw (h.0, filter_same test other xs h.1) refl

last_snoc : {A : Type 0} (xs : List A) (x : A) → last_of (xs ++ x ∷ []) ≡ Some x
last_snoc [] x = refl
last_snoc (y ∷ []) x = refl
last_snoc (y ∷ z ∷ xs) x = last_snoc (z ∷ xs) x

module _ {K V : Type 0} {s : Nodes K V} {bytes : K × V → List ℕ} {P : ℕ} {root : OpaqueNodePtr} {pairs : List (K × V)} {layout : Tree OpaqueNodePtr (K × V)}
    (by : IsCanonicalTree bytes P s root pairs layout) where
  -- what a descent ends at is this leaf, or none
  pub ends_at : (query : List ℕ) (at_least : ℕ) (kept : End) {end to : Option LeafPtr} → end ≡ to →
      EndsWalk bytes query at_least kept pairs layout end → EndsWalk bytes query at_least kept pairs layout to
  ends_at query at_least kept = subst (EndsWalk bytes query at_least kept pairs layout)

  -- wherever a descent along a query ends
  pub ends_walk : (query : List ℕ) (end : TextEnd) {leaf : Option LeafPtr} → leaf ≡ leaf_of_end end → EndsAt bytes query 0 Last pairs layout end →
      EndsWalk bytes query 0 Last pairs layout leaf
  ends_walk query end is ends = ends_at query 0 Last (sym is) (go end ends)
    where
      go : (end : TextEnd) → EndsAt bytes query 0 Last pairs layout end → EndsWalk bytes query 0 Last pairs layout (leaf_of_end end)
      go (Whole name) (covering, on) = covering
      go (Passed passed) ends = ends

  module _ {n : OpaqueNodePtr} {x : K × V} (has : HasLeaf layout n x) where
    -- the pairs around that of a leaf
    pub around : pairs ≡ (pairs_before has.path ++ x ∷ []) ++ pairs_after has.path
    around = sym (tree_radix by).1 ∙ ap pairs_of (sym has.whole) ∙ pairs_of-plug has.path (leaf n x)

    pub at_leaf : (Q : K × V → Type 0) → Each Q pairs → Q x
    at_leaf Q all =
        (Each-right Q (pairs_before has.path) (x ∷ [])
        (Each-left Q (pairs_before has.path ++ x ∷ []) (pairs_after has.path) (subst (Each Q) around all))).0

  module _ (end : ℕ) (ended : AreEnded bytes end pairs) (query : List ℕ) where
    -- no text is a prefix of the query
    none_found : EndsWalk bytes query 0 Last pairs layout None → texts_in_front bytes query pairs ≡ []
    none_found off = filter_none (λ x. is_front (text_of bytes x) query) pairs
        (Each-weaker (λ x. IsSought bytes query 0 x → ⊥) (λ x. is_front (text_of bytes x) query ≡ false)
        (λ x o. not_front (text_of bytes x) query (λ f. o (f, omega arith))) pairs off)

    -- the text of the leaf continues with each that is one
    covers_all : {name : LeafPtr} (c : IsCovering bytes query 0 Last pairs layout name) →
        Each (λ x. IsFront (text_of bytes x) query → IsFront (text_of bytes x) (text_of bytes c.pair)) pairs
    covers_all c = Each-weaker (λ x. IsSought bytes query 0 x → IsFront (text_of bytes x) (text_of bytes c.pair))
        (λ x. IsFront (text_of bytes x) query → IsFront (text_of bytes x) (text_of bytes c.pair)) (λ x cover f. cover (f, omega arith)) pairs c.covers

    -- and is one
    pub last_found : {name : LeafPtr} (c : IsCovering bytes query 0 Last pairs layout name) → IsFront (text_of bytes c.pair) query →
        FindsLast layout (texts_in_front bytes query pairs) (Some name)
    last_found {name} c on = (c.pair, last, c.has)
      where
        test : K × V → Bool
        test = λ x. is_front (text_of bytes x) query

        e : IsEndedBy end (bytes c.pair)
        e = at_leaf c.has (λ x. IsEndedBy end (bytes x)) ended

        own : text_of bytes c.pair ≡ e.text
        own = ap without_last e.is ∙ ended_text e.text end

        after : Each (λ y. is_front (text_of bytes y) query ≡ false) (pairs_after c.has.path)
        after =
            let split = around c.has in
            let rise = Pairwise-after (λ x y. Precedes (bytes x) (bytes y)) (pairs_before c.has.path) (pairs_after c.has.path) c.pair
            (subst (IsMap bytes) (split ∙ append_assoc (pairs_before c.has.path) (c.pair ∷ []) (pairs_after c.has.path)) by.is_map) in
            let marks = Each-right (λ x. IsEndedBy end (bytes x)) (pairs_before c.has.path ++ c.pair ∷ []) (pairs_after c.has.path)
            (subst (AreEnded bytes end) split ended) in
            let covers = Each-right (λ x. IsFront (text_of bytes x) query → IsFront (text_of bytes x) (text_of bytes c.pair))
            (pairs_before c.has.path ++ c.pair ∷ []) (pairs_after c.has.path)
            (subst (Each (λ x. IsFront (text_of bytes x) query → IsFront (text_of bytes x) (text_of bytes c.pair))) split (covers_all c)) in
            Each-both (λ y. Precedes (bytes c.pair) (bytes y)) (λ y. IsFront (text_of bytes y) query → ⊥)
            (λ y. is_front (text_of bytes y) query ≡ false) (λ y p o. not_front (text_of bytes y) query o) (pairs_after c.has.path) rise
            (Each-both (λ y. Precedes (bytes c.pair) (bytes y))
            (λ y. IsEndedBy end (bytes y) × (IsFront (text_of bytes y) query → IsFront (text_of bytes y) (text_of bytes c.pair)))
            (λ y. IsFront (text_of bytes y) query → ⊥)
            (λ y p (i, cover) f. fronts_first end (bytes c.pair) (bytes y) e.text i.text e.is i.is e.above
            (subst (λ z. IsFront z e.text) (ap without_last i.is ∙ ended_text i.text end)
            (subst (λ z. IsFront (text_of bytes y) z) own (cover f))) p) (pairs_after c.has.path) rise
            (Each-both (λ x. IsEndedBy end (bytes x))
            (λ x. IsFront (text_of bytes x) query → IsFront (text_of bytes x) (text_of bytes c.pair))
            (λ y. IsEndedBy end (bytes y) × (IsFront (text_of bytes y) query → IsFront (text_of bytes y) (text_of bytes c.pair)))
            (λ y i cover. (i, cover)) (pairs_after c.has.path) marks covers))

        here : filter test (c.pair ∷ []) ≡ c.pair ∷ []
        here = rw (ap (is_front (text_of bytes c.pair)) on.1 ∙ front_is (text_of bytes c.pair) on.0) refl

        last : last_of (texts_in_front bytes query pairs) ≡ Some c.pair
        last =
            ap (λ xs. last_of (filter test xs)) (around c.has)
            ∙ ap last_of (filter-append test (pairs_before c.has.path ++ c.pair ∷ []) (pairs_after c.has.path))
            ∙ ap₂ (λ xs ys. last_of (xs ++ ys)) (filter-append test (pairs_before c.has.path) (c.pair ∷ [])) (filter_none test (pairs_after c.has.path) after)
            ∙ ap (λ xs. last_of ((filter test (pairs_before c.has.path) ++ xs) ++ [])) here
            ∙ ap last_of (append-nil (filter test (pairs_before c.has.path) ++ c.pair ∷ []))
            ∙ last_snoc (filter test (pairs_before c.has.path)) c.pair

    -- the leaf's text differs from the query: what they share serves as well
    module _ {name : LeafPtr} (c : IsCovering bytes query 0 Last pairs layout name) where
      shared_is : take (length (common_front (text_of bytes c.pair) query)) query ≡ common_front (text_of bytes c.pair) query
      shared_is =
          let (r, e) = common_front_right (text_of bytes c.pair) query in
          ap (take (length (common_front (text_of bytes c.pair) query))) e
          ∙ take_at (common_front (text_of bytes c.pair) query) r (length (common_front (text_of bytes c.pair) query)) refl

      same_fronts : texts_in_front bytes query pairs ≡ texts_in_front bytes (common_front (text_of bytes c.pair) query) pairs
      same_fronts =
          filter_same (λ x. is_front (text_of bytes x) query) (λ x. is_front (text_of bytes x) (common_front (text_of bytes c.pair) query)) pairs
          (Each-weaker (λ x. IsFront (text_of bytes x) query → IsFront (text_of bytes x) (text_of bytes c.pair))
          (λ x. is_front (text_of bytes x) query ≡ is_front (text_of bytes x) (common_front (text_of bytes c.pair) query))
          (λ x cover. same_front (text_of bytes x) query (common_front (text_of bytes c.pair) query)
          (λ f. (common_front_is_longest (text_of bytes c.pair) query).2 (text_of bytes x) (cover f) f)
          (λ f. front_trans (text_of bytes x) (common_front (text_of bytes c.pair) query) query f
          (common_front_right (text_of bytes c.pair) query))) pairs (covers_all c))

      -- it is a prefix of the leaf's key
      begins : IsFront (common_front (text_of bytes c.pair) query) (bytes c.pair)
      begins =
          let e = at_leaf c.has (λ x. IsEndedBy end (bytes x)) ended in
          let text : text_of bytes c.pair ≡ e.text = ap without_last e.is ∙ ended_text e.text end in
          front_trans (common_front (text_of bytes c.pair) query) (text_of bytes c.pair) (bytes c.pair) (common_front_left (text_of bytes c.pair) query)
          (end ∷ [], e.is ∙ ap (λ z. z ++ end ∷ []) (sym text))

  module _ (end : ℕ) (ended : AreEnded bytes end pairs) (query : List ℕ) where
    pub found_none : (result : Option LeafPtr) → result ≡ None → EndsWalk bytes query 0 Last pairs layout None →
        FindsLast layout (texts_in_front bytes query pairs) result
    found_none result is off = subst (FindsLast layout (texts_in_front bytes query pairs)) (sym is) (none_found end ended query off)

    -- all of the text is shared
    pub found_whole : {name : LeafPtr} (c : IsCovering bytes query 0 Last pairs layout name) →
        length (common_front (text_of bytes c.pair) query) ≡ length (text_of bytes c.pair) →
        FindsLast layout (texts_in_front bytes query pairs) (Some name)
    found_whole c all = last_found end ended query c (shared_whole (text_of bytes c.pair) query (omega arith))

    -- the second descent, along what is shared
    pub found_again : {name : LeafPtr} (c : IsCovering bytes query 0 Last pairs layout name) (n : ℕ) → n ≡ length (common_front (text_of bytes c.pair) query) →
        (result : Option LeafPtr) → EndsWalk bytes (take n query) 0 Last pairs layout result → FindsLast layout (texts_in_front bytes query pairs) result
    found_again c n count result ends =
        let cut : take n query ≡ common_front (text_of bytes c.pair) query = ap (λ m. take m query) count ∙ shared_is end ended query c in
        subst (λ xs. FindsLast layout xs result) (sym (same_fronts end ended query c)) (go result (subst (λ q. EndsWalk bytes q 0 Last pairs layout result) cut ends))
      where
        go : (result : Option LeafPtr) → EndsWalk bytes (common_front (text_of bytes c.pair) query) 0 Last pairs layout result →
            FindsLast layout (texts_in_front bytes (common_front (text_of bytes c.pair) query) pairs) result
        go None off = none_found end ended (common_front (text_of bytes c.pair) query) off
        go (Some other) d =
            last_found end ended (common_front (text_of bytes c.pair) query) d
            (at_leaf c.has (λ x. IsFront (common_front (text_of bytes c.pair) query) (bytes x) →
            IsFront (text_of bytes d.pair) (common_front (text_of bytes c.pair) query)) d.along (begins end ended query c))
