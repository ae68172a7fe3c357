-- what a name stands for by cases is what it stands for by a layout
use Rattle.std.proofs.Common.{◌≡◌, ◌≢◌, ℕ, List, ◌∷◌, ◌++◌, refl, ap, ap₂, sym, ◌∙◌, subst, Option, Some}
use Rattle.art_model.specs.Prelude.{Tree, leaf, inner, Subtrees, child, no_child, unmarked, all_unmarked, Node, inner_node, name_of, slots_of, names_of, names_below, leaf_names, leaf_names_below, Holds, HoldsBelow, AreDistinct}
use Rattle.art_model.specs.ByCases.{Stands, StandBelow}
use Rattle.art_model.proofs.lists.Pairwises.{Pairwise-left, Pairwise-right, Pairwise-append, Pairwise-across}

module _ {N A : Type 0} (at : N → Option (Node N A)) where
  -- a layout from what a name stands for
  abbrev IsLayoutBy : N → Tree (Unit {0}) A → List N → List N → Tree N A → Type 0
  IsLayoutBy n t names leaves l = (name_of l ≡ n) × (unmarked l ≡ t) × (names_of l ≡ names) × (leaf_names l ≡ leaves) × Holds at l × AreDistinct names

  abbrev AreLayoutsBy : List (ℕ × N) → Subtrees (Unit {0}) A → List N → List N → Subtrees N A → Type 0
  AreLayoutsBy slots cs names leaves ls =
      (slots_of ls ≡ slots) × (all_unmarked ls ≡ cs) × (names_below ls ≡ names) × (leaf_names_below ls ≡ leaves) ×
      HoldsBelow at ls × AreDistinct names

  mutual
    pub layout_of : (t : Tree (Unit {0}) A) (n : N) (names leaves : List N) → Stands at n t names leaves → (l : Tree N A) × IsLayoutBy n t names leaves l
    layout_of (leaf u x) n names leaves (e, is, ls) = (leaf n x, (refl, refl, sym is, sym ls, e, subst AreDistinct (sym is) (tt, tt)))
    layout_of (inner u h cs) n names leaves (slots, below, e, is, apart, stand) =
        let (ls, (s, c, ns, lns, holds, distinct)) = layouts_of cs slots below leaves stand in (
          inner n h ls,
          (
            refl,
            ap (inner tt h) c,
            ap (λ l. n ∷ l) ns
                ∙ sym is,
            lns,
            (e ∙ ap (λ z. Some (inner_node h z)) (sym s), holds),
            subst AreDistinct (sym is) (apart, distinct),
          ),
        )

    layouts_of : (cs : Subtrees (Unit {0}) A) (slots : List (ℕ × N)) (names leaves : List N) → StandBelow at slots cs names leaves →
        (ls : Subtrees N A) × AreLayoutsBy slots cs names leaves ls
    layouts_of no_child slots names leaves (e, is, ls) = (no_child, (sym e, refl, sym is, sym ls, tt, subst AreDistinct (sym is) tt))
    layouts_of (child b t cs) slots names leaves (n, others, own, rest, ls, rs, e, is, lis, apart, stand, below) =
        let (l, (root, u, ns, lns, holds, d)) = layout_of t n own ls stand in
        let (k, (s, us, ms, lms, held, ds)) = layouts_of cs others rest rs below in (
          child b l k,
          (
            ap₂ (λ m (z : List (ℕ × N)). (b, m) ∷ z) root s ∙ sym e,
            ap₂ (child b) u us,
            ap₂ (λ (xs ys : List N). xs ++ ys) ns ms ∙
                sym is,
            ap₂ (λ (xs ys : List N). xs ++ ys) lns lms ∙ sym lis,
            (holds, held),
            subst AreDistinct (sym is) (Pairwise-append ◌≢◌ own rest d ds apart),
          ),
        )

  mutual
    pub stands_from : (l : Tree N A) → Holds at l → AreDistinct (names_of l) → Stands at (name_of l) (unmarked l) (names_of l) (leaf_names l)
    stands_from (leaf n x) h d = (h, refl, refl)
    stands_from (inner n h cs) holds d = (slots_of cs, names_below cs, holds.0, refl, d.0, stand_from_below cs holds.1 d.1)

    stand_from_below : (cs : Subtrees N A) → HoldsBelow at cs → AreDistinct (names_below cs) →
        StandBelow at (slots_of cs) (all_unmarked cs) (names_below cs) (leaf_names_below cs)
    stand_from_below no_child h d = (refl, refl, refl)
    stand_from_below (child b t cs) h d = (
      name_of t,
      slots_of cs,
      names_of t,
      names_below cs,
      leaf_names t,
      leaf_names_below cs,
      refl,
      refl,
      refl,
      Pairwise-across ◌≢◌ (names_of t)
          (names_below cs) d,
      stands_from t h.0 (Pairwise-left ◌≢◌ (names_of t) (names_below cs) d),
      stand_from_below cs h.1 (Pairwise-right ◌≢◌ (names_of t) (names_below cs) d),
    )
