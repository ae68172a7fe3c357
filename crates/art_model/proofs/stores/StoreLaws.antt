-- the laws of names that stand for trees, of canonical roots and of footprints
use Rattle.std.proofs.Common.{[], ◌≡◌, ℕ, refl, ap, sym, ◌∙◌, subst, Option, Some, None}
use Rattle.art_model.specs.Prelude.{Tree, leaf, inner, Subtrees, child, no_child, pairs_of, Node, inner_node, name_of, slots_of, names_of, leaf_names, Holds, HoldsBelow, AreDistinct, content_at, node_at, IsUsed}
use Rattle.art_model.specs.ByCases.{Stands}
use Rattle.art_model.specs.StoreLaws.{CasesHaveLayout, LayoutsHaveCases, HasOneLayout, HasRadixLayout, HaveSameTree, HasChildren, HasOneMap, OthersStayFree, OthersWereFree}
use Rattle.art_model.proofs.stores.ByCases.{layout_of, stands_from}
use Rattle.art_model.proofs.stores.Canonical.{tree_radix}
use Rattle.art_model.proofs.radix.TreeLaws.{one_child, have_two_children}
use Rattle.art_model.proofs.lists.Lists.{each_in}

module _ {N A : Type 0} where
  pub cases_have_layout : CasesHaveLayout N A
  cases_have_layout at root tree names leaves stand =
      let (layout, (named, plain, own, ends, holds, distinct)) = layout_of at tree root names leaves stand in
      (layout, (record { named = named; holds = holds; distinct = subst AreDistinct (sym own) distinct }, plain), own, ends)

  pub layouts_have_cases : LayoutsHaveCases N A
  layouts_have_cases at root tree layout (is, plain) =
      subst (λ n. Stands at n tree (names_of layout) (leaf_names layout)) is.named
      (subst (λ t. Stands at (name_of layout) t (names_of layout) (leaf_names layout)) plain (stands_from at layout is.holds is.distinct))

  module _ (at : N → Option (Node N A)) where
    mutual
      same_layout : (l k : Tree N A) → name_of k ≡ name_of l → Holds at l → Holds at k → k ≡ l
      same_layout (leaf n x) (leaf m y) e h g = cc
      same_layout (leaf n x) (inner m i ds) e h holds = let g = holds.0 in absurd cc
      same_layout (inner n i cs) (leaf m y) e holds g = let h = holds.0 in absurd cc
      same_layout (inner n i cs) (inner m j ds) e holds helds =
          let h = holds.0 in
          let g = helds.0 in
          let both : ◌≡◌ {A = Node N A} (inner_node j (slots_of ds)) (inner_node i (slots_of cs)) = cc in
          let heads : j ≡ i = cc in
          let slots : slots_of ds ≡ slots_of cs = cc in
          let below = same_below cs ds slots holds.1 helds.1 in
          cc

      same_below : (cs ds : Subtrees N A) → slots_of ds ≡ slots_of cs → HoldsBelow at cs → HoldsBelow at ds → ds ≡ cs
      same_below no_child no_child e h g = refl
      same_below no_child (child c u ds) e h g = absurd cc
      same_below (child b t cs) no_child e h g = absurd cc
      same_below (child b t cs) (child c u ds) e h g =
          let first : ◌≡◌ {A = ℕ × N} (c, name_of u) (b, name_of t) = cc in
          let rest : slots_of ds ≡ slots_of cs = cc in
          let tree = same_layout t u (ap (λ p. p.1) first) h.0 g.0 in
          let trees = same_below cs ds rest h.1 g.1 in
          let byte : c ≡ b = ap (λ p. p.0) first in
          cc

  pub has_one_layout : HasOneLayout N A
  has_one_layout at root layout other one two = same_layout at layout other (two.named ∙ sym one.named) one.holds two.holds

module _ {K V : Type 0} where
  pub has_radix_layout : HasRadixLayout K V
  has_radix_layout bytes P s root pairs layout by = tree_radix by

  pub have_same_tree : HaveSameTree K V
  have_same_tree bytes P s z root other pairs layout copy one two =
      let same : two.tree ≡ one.tree = let e : Some two.tree ≡ Some one.tree = sym two.is_tree ∙ one.is_tree in cc in
      two.stands.1 ∙ same ∙ sym one.stands.1

  pub others_stay_free : OthersStayFree K V
  others_stay_free old new placed freed changed f name free not_placed =
      f.others name not_placed
      (λ i. (each_in (λ n. IsUsed old n × (content_at new n ≡ None)) name freed f.are_freed i).0 free)
      (λ i. (each_in (λ n. IsUsed old n × IsUsed new n) name changed f.are_changed i).0 free)
      ∙ free

  pub others_were_free : OthersWereFree K V
  others_were_free old new placed freed changed f name free not_freed =
      sym (f.others name
      (λ i. (each_in (λ n. (content_at old n ≡ None) × IsUsed new n) name placed f.are_placed i).1 free)
      not_freed
      (λ i. (each_in (λ n. IsUsed old n × IsUsed new n) name changed f.are_changed i).1 free))
      ∙ free

  pub has_children : HasChildren K V
  has_children bytes P s root pairs layout by = (by.stands.0, one_child layout (have_two_children bytes P [] layout (tree_radix by).0))

  pub has_one_map : HasOneMap K V
  has_one_map bytes P s root pairs others layout other one two =
      let same : other ≡ layout = has_one_layout (node_at s) root layout other one.stands.0 two.stands.0 in
      (sym (tree_radix two).1 ∙ ap pairs_of same ∙ (tree_radix one).1, same)
