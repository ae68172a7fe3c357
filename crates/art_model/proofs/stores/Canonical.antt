-- a canonical root's layout is a radix tree, and a layout that is one makes the root canonical
use Rattle.std.proofs.Common.{◌≡◌, ℕ, ◌≤◌, List, [], ◌∷◌, ◌++◌, length, refl, ap, ap₂, sym, ◌∙◌, arith, subst, Option, Some, None}
use Rattle.art_model.specs.Prelude.{Tree, leaf, inner, Subtrees, child, no_child, canonical_header, tree_of, unmarked, all_unmarked, pairs_of, pairs_below, IsRadix, AreRadix, BytesRise, bytes_of, IsMap, Node, name_of, names_of, leaf_names, Holds, AreDistinct, Links, AreLinked, Nodes, OpaqueNodePtr, IsCanonicalTree, node_at, links_at}
use Rattle.art_model.proofs.radix.Build.{build_root}
use Rattle.art_model.proofs.radix.Rebuild.{rebuild_root}
use Rattle.art_model.proofs.radix.Radix.{radix_map}

module _ {N A : Type 0} where
  mutual
    pairs_of-unmarked : (t : Tree N A) → pairs_of (unmarked t) ≡ pairs_of t
    pairs_of-unmarked (leaf n x) = refl
    pairs_of-unmarked (inner n h cs) = pairs_below-unmarked cs

    pairs_below-unmarked : (cs : Subtrees N A) → pairs_below (all_unmarked cs) ≡ pairs_below cs
    pairs_below-unmarked no_child = refl
    pairs_below-unmarked (child b t cs) = ap₂ (λ (xs ys : List A). xs ++ ys) (pairs_of-unmarked t) (pairs_below-unmarked cs)

  bytes_of-unmarked : (cs : Subtrees N A) → bytes_of (all_unmarked cs) ≡ bytes_of cs
  bytes_of-unmarked no_child = refl
  bytes_of-unmarked (child b t cs) = ap (λ l. b ∷ l) (bytes_of-unmarked cs)

module _ {N A : Type 0} (bytes : A → List ℕ) (P : ℕ) where
  mutual
    radix_unmarked : (t : Tree N A) (place : List ℕ) → IsRadix bytes P place (unmarked t) → IsRadix bytes P place t
    radix_unmarked (leaf n x) place h = h
    radix_unmarked (inner n h cs) place (part, e, two, up, below) =
        let bs = bytes_of-unmarked cs in (
          part,
          e ∙ ap (λ l. canonical_header P part (length l)) bs,
          subst (λ l. 2 ≤ length l) bs two,
          subst BytesRise bs up,
          radix_below_unmarked cs (place ++ part) below,
        )

    radix_below_unmarked : (cs : Subtrees N A) (front : List ℕ) → AreRadix bytes P front (all_unmarked cs) → AreRadix bytes P front cs
    radix_below_unmarked no_child front h = tt
    radix_below_unmarked (child b t cs) front h = (radix_unmarked t (front ++ b ∷ []) h.0, radix_below_unmarked cs front h.1)

  -- a layout whose plain tree is that of a map is a radix tree with these pairs
  radix_from : (pairs : List A) (tree : Tree (Unit {0}) A) (layout : Tree N A) → IsMap bytes pairs → tree_of bytes pairs P 0 ≡ Some tree →
      unmarked layout ≡ tree → IsRadix bytes P [] layout × (pairs_of layout ≡ pairs)
  radix_from [] tree layout map e is = absurd cc
  radix_from (x ∷ xs) tree layout map e is =
      let (t, made, radix, pairs) = build_root bytes P (x ∷ xs) map (omega arith) in
      let same : t ≡ unmarked layout = cc in
      (radix_unmarked layout [] (subst (IsRadix bytes P []) same radix), sym (pairs_of-unmarked layout) ∙ ap pairs_of (sym same) ∙ pairs)

  -- A layout by what holds at each node: a radix tree of the pairs, held in the store under distinct names, with its leaves linked.
  pub record IsLaidOut (at : N → Option (Node N A)) (links : N → Option (Links N)) (root : N) (pairs : List A) (layout : Tree N A) : Type 0 where
    pub named : name_of layout ≡ root
    pub radix : IsRadix bytes P [] layout
    pub pairs_are : pairs_of layout ≡ pairs
    pub holds : Holds at layout
    pub distinct : AreDistinct (names_of layout)
    pub linked : AreLinked links None (leaf_names layout) None

module _ {K V : Type 0} {bytes : K × V → List ℕ} {P : ℕ} {s : Nodes K V} {root : OpaqueNodePtr} {pairs : List (K × V)}
    {layout : Tree OpaqueNodePtr (K × V)} where
  -- a canonical root's layout is a radix tree with its pairs
  pub tree_radix : IsCanonicalTree bytes P s root pairs layout → IsRadix bytes P [] layout × (pairs_of layout ≡ pairs)
  tree_radix by = radix_from bytes P pairs by.tree layout by.is_map by.is_tree by.stands.1

  -- a canonical root has a layout
  pub laid_out : IsCanonicalTree bytes P s root pairs layout → IsLaidOut bytes P (node_at s) (links_at s) root pairs layout
  laid_out by =
      let (radix, is) = tree_radix by in
      record { named = by.stands.0.named; radix = radix; pairs_are = is; holds = by.stands.0.holds; distinct = by.stands.0.distinct; linked = by.linked }

  -- a layout makes the root canonical
  pub canonical_from : IsLaidOut bytes P (node_at s) (links_at s) root pairs layout → IsCanonicalTree bytes P s root pairs layout
  canonical_from l = record {
    is_map = subst (IsMap bytes) l.pairs_are (radix_map bytes P layout [] l.radix);
    tree = unmarked layout;
    is_tree = subst (λ xs. tree_of bytes xs P 0 ≡ Some (unmarked layout)) l.pairs_are (rebuild_root bytes P layout l.radix);
    stands = (record { named = l.named; holds = l.holds; distinct = l.distinct }, refl);
    linked = l.linked;
  }
