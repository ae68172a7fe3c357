-- the leaves between two bounds
use Rattle.std.proofs.Common.{◌≡◌, ℕ, List, [], ◌∷◌, ◌++◌, map as each, filter, refl, ap, sym, ◌∙◌, subst, Option, Some, None, IsSome, IfSome, Bool, true, false, not, cond, inl, inr, option_map}
use Rattle.std.specs.List.{AllByRecursion as Each}
use Rattle.std.specs.FinMap as map
use Rattle.std.specs.declared.ops.Bound.{Bound}
use Rattle.std.specs.declared.ops.Bound.TheVariants.{Included, Excluded, Unbounded}
use Rattle.std.proofs.lemmas.Bool.{true≢false}
use Rattle.std.proofs.lemmas.List.{map-append}
use Rattle.art_model.specs.Prelude.{Nodes, leaf_name, LeafNode, LeafPtr, OpaqueNodePtr, IsCanonicalTree, IsIn, Precedes, is_before, Holds, HoldsBelow, Node, entries_below, entries_of, leaf_names, leaf_node, Pairwise, first_of, last_of, is_between, is_from, is_up_to, leaves_where, IsSegment, links_at, node_at, pair_of, Subtrees, Tree, child, inner, leaf, no_child, pairs_of}
use Rattle.art_model.proofs.stores.Canonical.{tree_radix}
use Rattle.art_model.proofs.keys.KeyLaws.{order_is_transitive}
use Rattle.art_model.proofs.lists.Lists.{Each-append, each_in, in_map, out_map}
use Rattle.art_model.proofs.radix.Parts.{where_all}
use Rattle.art_model.proofs.places.Paths.{leaf_names-leaves, pairs_of-leaves}
use Rattle.art_model.proofs.leaves.Segments.{last_of_in, segment_front, segment_rest, tree_segment}
use Rattle.art_model.proofs.stores.Views as views
use Rattle.art_reading.specs.Iterators.{IsIteratorOf}
use Rattle.art_reading.proofs.Iterators.{empty_iterator, there_in}
use Rattle.art_ranges.proofs.Spans.{not_not, not_true, pairwise_unmap, pairwise_weaker, span_in, span_last, span_none, span_off, span_on}

from_rises : (from : Bound (List ℕ)) (a b : List ℕ) → Precedes a b → is_from from a ≡ true → is_from from b ≡ true
from_rises (Included k) a b h on =
    let off : is_before a k ≡ false = sym (not_not (is_before a k)) ∙ ap not on in
    ap not (not_true (is_before b k) (λ less. true≢false (sym (order_is_transitive a b k h.0 less) ∙ off)))
from_rises (Excluded k) a b h on = order_is_transitive k a b on h.0
from_rises Unbounded a b h on = refl

up_to_falls : (to : Bound (List ℕ)) (a b : List ℕ) → Precedes a b → is_up_to to b ≡ true → is_up_to to a ≡ true
up_to_falls (Included k) a b h on =
    let off : is_before k b ≡ false = sym (not_not (is_before k b)) ∙ ap not on in
    ap not (not_true (is_before k a) (λ less. true≢false (sym (order_is_transitive k a b less h.0) ∙ off)))
up_to_falls (Excluded k) a b h on = order_is_transitive a b k h.0 on
up_to_falls Unbounded a b h on = refl

-- ---- leaves that pass a test
module _ {N A : Type 0} (test : A → Bool) (t : Tree N A) where
  in_filter : (es : List (A × N)) (e : A × N) → IsIn e (filter (λ e. test e.0) es) → IsIn e es
  in_filter [] e i = absurd i
  in_filter (f ∷ es) e i = go (in_filter es e) (test f.0) i
    where
      go : (IsIn e (filter (λ e. test e.0) es) → IsIn e es) → (b : Bool) →
          IsIn e (cond b (f ∷ filter (λ e. test e.0) es) (filter (λ e. test e.0) es)) → IsIn e (f ∷ es)
      go ih true (inl same) = inl same
      go ih true (inr j) = inr (ih j)
      go ih false j = inr (ih j)

  where_in : (n : N) → IsIn n (leaves_where test t) → IsIn n (leaf_names t)
  where_in n i =
      let (e, j, is) = out_map (λ (e : A × N). e.1) n (filter (λ e. test e.0) (entries_of t)) i in
      subst (IsIn n) (leaf_names-leaves t) (subst (λ z. IsIn z (each (λ e. e.1) (entries_of t))) is
      (in_map (λ (e : A × N). e.1) e (entries_of t) (in_filter (entries_of t) e j)))

first_of_in : {X : Type 0} (xs : List X) (k : X) → first_of xs ≡ Some k → IsIn k xs
first_of_in [] k e = absurd cc
first_of_in (x ∷ xs) k e = inl cc

each_all : {X : Type 0} (xs : List X) → Each (λ x. true ≡ true) xs
each_all [] = tt
each_all (x ∷ xs) = (refl, each_all xs)

-- all leaves
pub where_any : {N A : Type 0} (t : Tree N A) → leaves_where (λ x. true) t ≡ leaf_names t
where_any t = where_all (λ x. true) t (each_all (pairs_of t))

-- tests that agree
pub where_same : {N A : Type 0} (p q : A → Bool) → ((x : A) → p x ≡ q x) → (t : Tree N A) → leaves_where p t ≡ leaves_where q t
where_same p q same t = ap (λ test. leaves_where test t) (λ i x. same x i)

module _ {N A : Type 0} (at : N → Option (Node N A)) where
  -- each entry is a leaf
  mutual
    entries_hold : (t : Tree N A) → Holds at t → Each (λ e. at e.1 ≡ Some (leaf_node e.0)) (entries_of t)
    entries_hold (leaf n x) h = (h, tt)
    entries_hold (inner n h cs) holds = entries_hold_below cs holds.1

    entries_hold_below : (cs : Subtrees N A) → HoldsBelow at cs → Each (λ e. at e.1 ≡ Some (leaf_node e.0)) (entries_below cs)
    entries_hold_below no_child h = tt
    entries_hold_below (child b t cs) h =
        Each-append (λ e. at e.1 ≡ Some (leaf_node e.0)) (entries_of t) (entries_below cs) (entries_hold t h.0) (entries_hold_below cs h.1)

module _ {K V : Type 0} {s : Nodes K V} {bytes : K × V → List ℕ} {P : ℕ} {root : OpaqueNodePtr} {pairs : List (K × V)} {layout : Tree OpaqueNodePtr (K × V)}
    (by : IsCanonicalTree bytes P s root pairs layout) where
  -- a leaf at an end of those that pass is in the store
  pub first_there : (test : K × V → Bool) (o : Option LeafPtr) → option_map leaf_name o ≡ first_of (leaves_where test layout) →
      IfSome o (λ p. IsSome (map.get s.leaves p))
  first_there test None e = tt
  first_there test (Some p) e =
      there_in s (leaf_names layout) None None p by.linked
      (where_in test layout (leaf_name p) (first_of_in (leaves_where test layout) (leaf_name p) (sym e)))

  pub last_there : (test : K × V → Bool) (o : Option LeafPtr) → option_map leaf_name o ≡ last_of (leaves_where test layout) →
      IfSome o (λ p. IsSome (map.get s.leaves p))
  last_there test None e = tt
  last_there test (Some p) e =
      there_in s (leaf_names layout) None None p by.linked
      (where_in test layout (leaf_name p) (last_of_in (leaves_where test layout) (leaf_name p) (sym e)))

  module _ (from to : Bound (List ℕ)) where
    abbrev Entry : Type 0
    Entry = (K × V) × OpaqueNodePtr

    rises : Pairwise (λ (a b : Entry). Precedes (bytes a.0) (bytes b.0)) (entries_of layout)
    rises =
        pairwise_unmap (λ (e : Entry). e.0) (λ x y. Precedes (bytes x) (bytes y)) (entries_of layout)
        (subst (Pairwise (λ x y. Precedes (bytes x) (bytes y))) (sym (pairs_of-leaves layout ∙ (tree_radix by).1)) by.is_map)

    rise : Pairwise (λ (a b : Entry). is_from from (bytes a.0) ≡ true → is_from from (bytes b.0) ≡ true) (entries_of layout)
    rise = pairwise_weaker (λ a b. Precedes (bytes a.0) (bytes b.0)) (λ a b. is_from from (bytes a.0) ≡ true → is_from from (bytes b.0) ≡ true)
        (λ a b h. from_rises from (bytes a.0) (bytes b.0) h) (entries_of layout) rises

    fall : Pairwise (λ (a b : Entry). is_up_to to (bytes b.0) ≡ true → is_up_to to (bytes a.0) ≡ true) (entries_of layout)
    fall = pairwise_weaker (λ a b. Precedes (bytes a.0) (bytes b.0)) (λ a b. is_up_to to (bytes b.0) ≡ true → is_up_to to (bytes a.0) ≡ true)
        (λ a b h. up_to_falls to (bytes a.0) (bytes b.0) h) (entries_of layout) rises

    -- they are linked
    span_segment : IsSegment (links_at s) (leaves_where (λ x. is_between from to (bytes x)) layout)
    span_segment =
        let whole = span_in (λ (e : Entry). is_from from (bytes e.0)) (λ e. is_up_to to (bytes e.0)) (entries_of layout) rise fall in
        let before = filter (λ (e : Entry). not (is_from from (bytes e.0))) (entries_of layout) in
        let middle = filter (λ (e : Entry). is_between from to (bytes e.0)) (entries_of layout) in
        let after = filter (λ (e : Entry). not (is_up_to to (bytes e.0))) (filter (λ (e : Entry). is_from from (bytes e.0)) (entries_of layout)) in
        let names : leaf_names layout ≡ each (λ (e : Entry). e.1) before ++ (each (λ (e : Entry). e.1) middle ++ each (λ (e : Entry). e.1) after) =
        sym (leaf_names-leaves layout) ∙ ap (each (λ (e : Entry). e.1)) (sym whole) ∙ map-append (λ (e : Entry). e.1) before (middle ++ after)
        ∙ ap (λ ns. each (λ (e : Entry). e.1) before ++ ns) (map-append (λ (e : Entry). e.1) middle after) in
        segment_front (each (λ (e : Entry). e.1) middle) (each (λ (e : Entry). e.1) after)
        (segment_rest (each (λ (e : Entry). e.1) before) (each (λ (e : Entry). e.1) middle ++ each (λ (e : Entry). e.1) after)
        (subst (IsSegment (links_at s)) names (tree_segment layout by.stands.0.distinct by.linked)))

    -- no leaf is after the lower bound
    no_names : (es : List Entry) → None ≡ first_of (each (λ e. e.1) es) → es ≡ []
    no_names [] e = refl
    no_names (x ∷ es) e = absurd cc

    pub none_after : None ≡ first_of (leaves_where (λ x. is_from from (bytes x)) layout) →
        IsIteratorOf s None (leaves_where (λ x. is_between from to (bytes x)) layout)
    none_after e =
        let none = span_none (λ (e : Entry). is_from from (bytes e.0)) (λ e. is_up_to to (bytes e.0)) (entries_of layout) rise fall
        (no_names (filter (λ e. is_from from (bytes e.0)) (entries_of layout)) e) in
        subst (IsIteratorOf s None) (sym (ap (each (λ (e : Entry). e.1)) none)) empty_iterator

    -- the first leaf after the lower bound has this pair
    record BeginsWith (p : LeafPtr) (shown : LeafNode K V) : Type 0 where
      entry : Entry
      rest : List Entry
      is : filter (λ (e : Entry). is_from from (bytes e.0)) (entries_of layout) ≡ entry ∷ rest
      named : entry.1 ≡ leaf_name p
      pair : entry.0 ≡ pair_of shown

    begins_with : (p : LeafPtr) (shown : LeafNode K V) → Some (leaf_name p) ≡ first_of (leaves_where (λ x. is_from from (bytes x)) layout) →
        Some shown ≡ map.get s.leaves p → BeginsWith p shown
    begins_with p shown e read = go (filter (λ (e : Entry). is_from from (bytes e.0)) (entries_of layout)) refl e
      where
        go : (es : List Entry) → filter (λ (e : Entry). is_from from (bytes e.0)) (entries_of layout) ≡ es →
            Some (leaf_name p) ≡ first_of (each (λ e. e.1) es) → BeginsWith p shown
        go [] is e = absurd cc
        go (x ∷ es) is e =
            let named : x.1 ≡ leaf_name p = cc in
            let i : IsIn x (entries_of layout) = in_filter (λ x. is_from from (bytes x)) layout (entries_of layout) x (subst (IsIn x) (sym is) (inl refl)) in
            let held =
            each_in (λ (e : Entry). node_at s e.1 ≡ Some (leaf_node e.0)) x (entries_of layout)
            (entries_hold (node_at s) layout by.stands.0.holds) i in
            let (other, there, same) = views.leaf_there s p x.0 (ap (node_at s) (sym named) ∙ held) in
            let one : other ≡ shown = cc in
            record { entry = x; rest = es; is = is; named = named; pair = sym same ∙ ap pair_of one }

    module _ {p : LeafPtr} {shown : LeafNode K V} (e : Some (leaf_name p) ≡ first_of (leaves_where (λ x. is_from from (bytes x)) layout))
        (read : Some shown ≡ map.get s.leaves p) where
      -- its key is after the upper bound
      pub first_past : is_up_to to (bytes (pair_of shown)) ≡ false → IsIteratorOf s None (leaves_where (λ x. is_between from to (bytes x)) layout)
      first_past off =
          let b = begins_with p shown e read in
          let none = span_off (λ (e : Entry). is_from from (bytes e.0)) (λ e. is_up_to to (bytes e.0))
          (entries_of layout) rise fall b.entry b.rest b.is (ap (λ x. is_up_to to (bytes x)) b.pair ∙ off) in
          subst (IsIteratorOf s None) (sym (ap (each (λ (e : Entry). e.1)) none)) empty_iterator

      module _ (on : is_up_to to (bytes (pair_of shown)) ≡ true) where
        -- the part starts with it
        span_first : (rest : List OpaqueNodePtr) × (leaves_where (λ x. is_between from to (bytes x)) layout ≡ leaf_name p ∷ rest)
        span_first =
            let b = begins_with p shown e read in
            let some = span_on (λ (e : Entry). is_from from (bytes e.0)) (λ e. is_up_to to (bytes e.0))
            (entries_of layout) rise fall b.entry b.rest b.is (ap (λ x. is_up_to to (bytes x)) b.pair ∙ on) in (
              each (λ (e : Entry). e.1) (filter (λ (e : Entry). is_up_to to (bytes e.0)) b.rest),
              ap (each (λ (e : Entry). e.1)) some
                  ∙ ap (λ n. n ∷ each (λ (e : Entry). e.1) (filter (λ (e : Entry). is_up_to to (bytes e.0)) b.rest)) b.named,
            )

        last_some : (x : OpaqueNodePtr) (xs : List OpaqueNodePtr) → (z : OpaqueNodePtr) × (last_of (x ∷ xs) ≡ Some z)
        last_some x [] = (x, refl)
        last_some x (y ∷ ys) = last_some y ys

        span_end : (z : OpaqueNodePtr) × (last_of (leaves_where (λ x. is_between from to (bytes x)) layout) ≡ Some z) ×
            (last_of (leaves_where (λ x. is_up_to to (bytes x)) layout) ≡ Some z)
        span_end =
            let (rest, is) = span_first in
            let (z, last) = last_some (leaf_name p) rest in (
              z,
              ap last_of is ∙ last,
              span_last (λ (e : Entry). is_from from (bytes e.0)) (λ e. is_up_to to (bytes e.0))
                  (entries_of layout) rise fall (λ e. e.1) z (ap last_of is ∙ last),
            )

        pub last_is_there : (o : Option LeafPtr) → option_map leaf_name o ≡ last_of (leaves_where (λ x. is_up_to to (bytes x)) layout) → IsSome o
        last_is_there None none = let (z, own, all) = span_end in absurd cc
        last_is_there (Some q) one = refl

        pub span_walk : {q : LeafPtr} → Some (leaf_name q) ≡ last_of (leaves_where (λ x. is_up_to to (bytes x)) layout) →
            IsIteratorOf s (Some (p, q)) (leaves_where (λ x. is_between from to (bytes x)) layout)
        span_walk last =
            let (rest, is) = span_first in
            let (z, own, all) = span_end in
            record { ends = (ap first_of is, own ∙ sym all ∙ sym last); segment = span_segment }
