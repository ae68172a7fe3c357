-- the leaves next to a cut
use Rattle.std.proofs.Common.{◌≡◌, ℕ, List, [], ◌∷◌, ◌++◌, ap, sym, ◌∙◌, subst, append_assoc, append-nil, Option, Some, None, Bool, true, false, not, option_map}
use Rattle.std.specs.List.{AllByRecursion as Each}
use Rattle.std.specs.FinMap as map
use Rattle.art_model.specs.Prelude.{Nodes, leaf_name, LeafNode, LeafPtr, OpaqueNodePtr, IsCanonicalTree, Precedes, is_before, AreLinked, leaf_names, HasFirstLeaf, HasLastLeaf, first_of, last_of, leaves_where, leaves_after, leaves_before, pairs_after, pairs_before, pairs_of, links_at, Tree}
use Rattle.art_model.proofs.keys.Keys.{precedes_apart}
use Rattle.art_model.proofs.leaves.LeafEnds.{first_or_of, last_or_of}
use Rattle.art_model.proofs.leaves.Links.{link_of}
use Rattle.art_model.proofs.lists.Lists.{Each-weaker, first_and_rest, others_and_last}
use Rattle.art_model.proofs.radix.Parts.{where_after, where_all, where_before, where_none}
use Rattle.art_model.proofs.places.Paths.{leaf_names-plug}
use Rattle.art_ranges.specs.declared.range.Cut.{Cut}
use Rattle.art_ranges.specs.declared.range.Cut.TheVariants.{Before, After}
use Rattle.art_reading.specs.declared.lookup.descent.End.{End}
use Rattle.art_reading.specs.declared.lookup.descent.End.TheVariants.{First, Last}
use Rattle.art_ranges.specs.Cuts.{IsLeafAtCut, StandsBeside, is_before_cut}
use Rattle.art_reading.specs.Descents.{of_two}
use Rattle.art_reading.proofs.Iterators.{linked_leaf}

module _ {X : Type 0} (k : X) where
  last_after : (xs ys : List X) → last_of ys ≡ Some k → last_of (xs ++ ys) ≡ Some k
  last_after [] ys e = e
  last_after (x ∷ []) [] e = absurd cc
  last_after (x ∷ []) (y ∷ ys) e = e
  last_after (x ∷ z ∷ xs) ys e = last_after (z ∷ xs) ys e

-- on which side of a cut a key is that is before or after the key of the cut
module _ (cut : Cut) (key other : List ℕ) where
  lower_side : Precedes other key → is_before_cut cut key other ≡ true
  lower_side h = go cut
    where
      go : (c : Cut) → is_before_cut c key other ≡ true
      go Before = h.0
      go After = ap not (precedes_apart other key h)

  upper_side : Precedes key other → is_before_cut cut key other ≡ false
  upper_side h = go cut
    where
      go : (c : Cut) → is_before_cut c key other ≡ false
      go Before = precedes_apart key other h
      go After = ap not h.0

module _ {K V : Type 0} {s : Nodes K V} {bytes : K × V → List ℕ} {P : ℕ} {root : OpaqueNodePtr} {pairs : List (K × V)} {layout : Tree OpaqueNodePtr (K × V)}
    (by : IsCanonicalTree bytes P s root pairs layout) {key : List ℕ} {name : OpaqueNodePtr} (b : StandsBeside bytes key layout name) (cut : Cut) where
  -- whether the pairs of the node are before the cut
  abbrev side_of : Cut → Bool
  side_of Before = b.is_lower
  side_of After = not b.is_upper

  pub side : Bool
  side = side_of cut

  pub all_on_side : Each (λ x. is_before_cut cut key (bytes x) ≡ side) (pairs_of b.at.node)
  unfolding side
  all_on_side = go cut
    where
      go : (c : Cut) → Each (λ x. is_before_cut c key (bytes x) ≡ side_of c) (pairs_of b.at.node)
      go Before = b.lower
      go After = Each-weaker (λ x. is_before key (bytes x) ≡ b.is_upper) (λ x. not (is_before key (bytes x)) ≡ not b.is_upper)
          (λ x e. ap not e) (pairs_of b.at.node) b.upper

  lower : Each (λ x. is_before_cut cut key (bytes x) ≡ true) (pairs_before b.at.path)
  lower = Each-weaker (λ x. Precedes (bytes x) key) (λ x. is_before_cut cut key (bytes x) ≡ true) (λ x h. lower_side cut key (bytes x) h)
      (pairs_before b.at.path) b.at.before

  upper : Each (λ x. is_before_cut cut key (bytes x) ≡ false) (pairs_after b.at.path)
  upper = Each-weaker (λ x. Precedes key (bytes x)) (λ x. is_before_cut cut key (bytes x) ≡ false) (λ x h. upper_side cut key (bytes x) h)
      (pairs_after b.at.path) b.at.after

  not_lower : Each (λ x. not (is_before_cut cut key (bytes x)) ≡ false) (pairs_before b.at.path)
  not_lower = Each-weaker (λ x. is_before_cut cut key (bytes x) ≡ true) (λ x. not (is_before_cut cut key (bytes x)) ≡ false)
      (λ x e. ap not e) (pairs_before b.at.path) lower

  not_upper : Each (λ x. not (is_before_cut cut key (bytes x)) ≡ true) (pairs_after b.at.path)
  not_upper = Each-weaker (λ x. is_before_cut cut key (bytes x) ≡ false) (λ x. not (is_before_cut cut key (bytes x)) ≡ true)
      (λ x e. ap not e) (pairs_after b.at.path) upper

  linked : AreLinked (links_at s) None ((leaves_before b.at.path ++ leaf_names b.at.node) ++ leaves_after b.at.path) None
  linked = subst (λ ns. AreLinked (links_at s) None ns None) (ap leaf_names (sym b.at.whole) ∙ leaf_names-plug b.at.path b.at.node) by.linked

  -- the leaves before the cut, and those after it
  before_are : leaves_where (λ x. is_before_cut cut key (bytes x)) layout
      ≡ leaves_before b.at.path ++ leaves_where (λ x. is_before_cut cut key (bytes x)) b.at.node
  before_are = ap (leaves_where (λ x. is_before_cut cut key (bytes x))) (sym b.at.whole)
      ∙ where_before (λ x. is_before_cut cut key (bytes x)) b.at.path b.at.node lower upper

  after_are : leaves_where (λ x. not (is_before_cut cut key (bytes x))) layout
      ≡ leaves_where (λ x. not (is_before_cut cut key (bytes x))) b.at.node ++ leaves_after b.at.path
  after_are = ap (leaves_where (λ x. not (is_before_cut cut key (bytes x)))) (sym b.at.whole)
      ∙ where_after (λ x. not (is_before_cut cut key (bytes x))) b.at.path b.at.node not_lower not_upper

  -- the node is after the cut
  module _ (off : side ≡ false) {p : LeafPtr} (first : HasFirstLeaf b.at.node (leaf_name p)) {shown : LeafNode K V}
      (read : Some shown ≡ map.get s.leaves p) where
    none_before : Each (λ x. is_before_cut cut key (bytes x) ≡ false) (pairs_of b.at.node)
    none_before = subst (λ t. Each (λ x. is_before_cut cut key (bytes x) ≡ t) (pairs_of b.at.node)) off all_on_side

    pub from_first : (end : End) {result : Option LeafPtr} → result ≡ of_two end (Some p, shown.previous) → IsLeafAtCut bytes cut key layout end result
    from_first First e =
        let (rest, is) = first_and_rest (leaf_name p) (leaf_names b.at.node) first.name_is in
        let own : leaves_where (λ x. not (is_before_cut cut key (bytes x))) b.at.node ≡ leaf_names b.at.node =
        where_all (λ x. not (is_before_cut cut key (bytes x))) b.at.node
        (Each-weaker (λ x. is_before_cut cut key (bytes x) ≡ false) (λ x. not (is_before_cut cut key (bytes x)) ≡ true) (λ x h. ap not h)
        (pairs_of b.at.node) none_before) in
        ap (option_map leaf_name) e ∙ sym (ap first_of (after_are ∙ ap (λ ns. ns ++ leaves_after b.at.path) (own ∙ is)))
    from_first Last e =
        let (rest, is) = first_and_rest (leaf_name p) (leaf_names b.at.node) first.name_is in
        let own = where_none (λ x. is_before_cut cut key (bytes x)) b.at.node none_before in
        let split : (leaves_before b.at.path ++ leaf_names b.at.node) ++ leaves_after b.at.path
        ≡ leaves_before b.at.path ++ leaf_name p ∷ (rest ++ leaves_after b.at.path) =
        ap (λ ns. (leaves_before b.at.path ++ ns) ++ leaves_after b.at.path) is
        ∙ append_assoc (leaves_before b.at.path) (leaf_name p ∷ rest) (leaves_after b.at.path) in
        let link = link_of (links_at s) (leaves_before b.at.path) (rest ++ leaves_after b.at.path) (leaf_name p) None None
        (subst (λ ns. AreLinked (links_at s) None ns None) split linked) in
        let (leaf, there, previous, next) = linked_leaf (map.get s.leaves p) _ link in
        let same : leaf ≡ shown = cc in
        ap (option_map leaf_name) (e ∙ ap (λ z. z.previous) (sym same)) ∙ previous ∙ last_or_of (leaves_before b.at.path)
        ∙ sym (ap last_of (before_are ∙ ap (λ ns. leaves_before b.at.path ++ ns) own ∙ append-nil (leaves_before b.at.path)))

  -- the node is before the cut
  module _ (on : side ≡ true) {q : LeafPtr} (last : HasLastLeaf b.at.node (leaf_name q)) {shown : LeafNode K V} (read : Some shown ≡ map.get s.leaves q) where
    all_before : Each (λ x. is_before_cut cut key (bytes x) ≡ true) (pairs_of b.at.node)
    all_before = subst (λ t. Each (λ x. is_before_cut cut key (bytes x) ≡ t) (pairs_of b.at.node)) on all_on_side

    pub from_last : (end : End) {result : Option LeafPtr} → result ≡ of_two end (shown.next, Some q) → IsLeafAtCut bytes cut key layout end result
    from_last Last e =
        let own = where_all (λ x. is_before_cut cut key (bytes x)) b.at.node all_before in
        ap (option_map leaf_name) e ∙ sym (ap last_of (before_are ∙ ap (λ ns. leaves_before b.at.path ++ ns) own)
        ∙ last_after (leaf_name q) (leaves_before b.at.path) (leaf_names b.at.node) last.name_is)
    from_last First e =
        let (others, is) = others_and_last (leaf_name q) (leaf_names b.at.node) last.name_is in
        let own : leaves_where (λ x. not (is_before_cut cut key (bytes x))) b.at.node ≡ [] =
        where_none (λ x. not (is_before_cut cut key (bytes x))) b.at.node
        (Each-weaker (λ x. is_before_cut cut key (bytes x) ≡ true) (λ x. not (is_before_cut cut key (bytes x)) ≡ false) (λ x h. ap not h)
        (pairs_of b.at.node) all_before) in
        let split : (leaves_before b.at.path ++ leaf_names b.at.node) ++ leaves_after b.at.path
        ≡ (leaves_before b.at.path ++ others) ++ leaf_name q ∷ leaves_after b.at.path =
        ap (λ ns. (leaves_before b.at.path ++ ns) ++ leaves_after b.at.path) is
        ∙ ap (λ ns. ns ++ leaves_after b.at.path) (sym (append_assoc (leaves_before b.at.path) others (leaf_name q ∷ [])))
        ∙ append_assoc (leaves_before b.at.path ++ others) (leaf_name q ∷ []) (leaves_after b.at.path) in
        let link = link_of (links_at s) (leaves_before b.at.path ++ others) (leaves_after b.at.path) (leaf_name q) None None
        (subst (λ ns. AreLinked (links_at s) None ns None) split linked) in
        let (leaf, there, previous, next) = linked_leaf (map.get s.leaves q) _ link in
        let same : leaf ≡ shown = cc in
        ap (option_map leaf_name) (e ∙ ap (λ z. z.next) (sym same)) ∙ next ∙ first_or_of (leaves_after b.at.path)
        ∙ sym (ap first_of (after_are ∙ ap (λ ns. ns ++ leaves_after b.at.path) own))
