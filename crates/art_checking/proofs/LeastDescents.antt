-- descents along least children, step by step
use Rattle.std.proofs.Common.{◌≡◌, ◌≢◌, ℕ, Bool, true, List, [], ◌∷◌, ◌++◌, refl, ap, sym, ◌∙◌, subst, Option, Some, None, ◌⊎◌, inl, inr, option_map}
use Rattle.std.specs.FinMap as map
use Rattle.art_model.specs.Prelude.{Inner, leaf_name, inner_name, Nodes, InnerPtr, LeafNode, LeafPtr, Leaf, OpaqueNodePtr, IsIn, Node, leaf_node, inner_node, AreDistinct, node_at, header_at, held_leaf, held_inner, tree_node, pair_of, bottom_of, IsDescent, NodeHeader}
use Rattle.art_model.specs.Trails.{HasLeast}
use Rattle.art_model.proofs.lists.Lists.{each_in}
use Rattle.art_model.proofs.stores.Views.{held_in_inner, leaf_name_is}
use Rattle.art_checking.specs.Checked.{IsLeastLeaf}

-- ---- what is seen under a name
module _ {K V : Type 0} (s : Nodes K V) where
  pub inner_at : (p : InnerPtr) (node : Inner) → p.kind ≢ Leaf → map.get s.inners p ≡ Some node →
      node_at s (inner_name p) ≡ Some (inner_node (header_at p.kind node) node.children)
  inner_at p node proper there = ap (option_map (tree_node p.kind)) (held_in_inner s p.kind p.slot proper ∙ ap (option_map held_inner) there)

  none_at_inner : (p : InnerPtr) → p.kind ≢ Leaf → map.get s.inners p ≡ None → node_at s (inner_name p) ≡ None
  none_at_inner p proper gone = ap (option_map (tree_node p.kind)) (held_in_inner s p.kind p.slot proper ∙ ap (option_map held_inner) gone)

  pub leaf_at : (p : LeafPtr) (node : LeafNode K V) → map.get s.leaves p ≡ Some node → node_at s (leaf_name p) ≡ Some (leaf_node (pair_of node))
  leaf_at p node there = ap (λ o. option_map (tree_node Leaf) (option_map held_leaf o)) there

  pub none_at_leaf : (p : LeafPtr) → map.get s.leaves p ≡ None → node_at s (leaf_name p) ≡ None
  none_at_leaf p gone = ap (λ o. option_map (tree_node Leaf) (option_map held_leaf o)) gone

-- ---- one further step
bottom_more : (name : OpaqueNodePtr) (ns : List OpaqueNodePtr) (c : OpaqueNodePtr) → bottom_of name (ns ++ c ∷ []) ≡ c
bottom_more name [] c = refl
bottom_more name (n ∷ ns) c = bottom_more n ns c

descent_more : {A : Type 0} (at : OpaqueNodePtr → Option (Node OpaqueNodePtr A)) (name : OpaqueNodePtr) (ns : List OpaqueNodePtr) (c : OpaqueNodePtr)
    → IsDescent at name ns → HasLeast at (bottom_of name ns) c → IsDescent at name (ns ++ c ∷ [])
descent_more at name [] c d least = (least, tt)
descent_more at name (n ∷ ns) c d least = (d.0, descent_more at n ns c d.1 least)

-- the names above the one that a descent ends at
abbrev pub above : OpaqueNodePtr → List OpaqueNodePtr → List OpaqueNodePtr
above name [] = []
above name (n ∷ ns) = name ∷ above n ns

above_more : (name : OpaqueNodePtr) (ns : List OpaqueNodePtr) (c k : OpaqueNodePtr) → (bottom_of name ns ≡ k) ⊎ IsIn k (above name ns) →
    IsIn k (above name (ns ++ c ∷ []))
above_more name [] c k (inl e) = inl e
above_more name [] c k (inr i) = absurd i
above_more name (n ∷ ns) c k (inl e) = inr (above_more n ns c k (inl e))
above_more name (n ∷ ns) c k (inr (inl e)) = inl e
above_more name (n ∷ ns) c k (inr (inr i)) = inr (above_more n ns c k (inr i))

bottom_in : (name : OpaqueNodePtr) (ns : List OpaqueNodePtr) → IsIn (bottom_of name ns) (name ∷ ns)
bottom_in name [] = inl refl
bottom_in name (n ∷ ns) = inr (bottom_in n ns)

-- a descent that ends at a name above meets it twice
met_twice : (name : OpaqueNodePtr) (ns : List OpaqueNodePtr) → IsIn (bottom_of name ns) (above name ns) → AreDistinct (name ∷ ns) → ⊥
met_twice name [] i apart = i
met_twice name (n ∷ ns) (inl e) apart = each_in (λ m. name ≢ m) (bottom_of n ns) (n ∷ ns) apart.0 (bottom_in n ns) e
met_twice name (n ∷ ns) (inr i) apart = met_twice n ns i apart.1

-- A descent along least children leads from the start to a name, and passed these inner nodes.
pub record IsDown {A : Type 0} (at : OpaqueNodePtr → Option (Node OpaqueNodePtr A)) (passed : InnerPtr → Bool) (start now : OpaqueNodePtr) : Type 0 where
  pub names : List OpaqueNodePtr
  pub descent : IsDescent at start names
  pub ends : bottom_of start names ≡ now
  pub passes : (p : InnerPtr) → passed p ≡ true → IsIn (inner_name p) (above start names)

pub down_more : {A : Type 0} {at : OpaqueNodePtr → Option (Node OpaqueNodePtr A)} {passed more : InnerPtr → Bool} {start now : OpaqueNodePtr}
    (p : InnerPtr) (least : OpaqueNodePtr) → IsDown at passed start now → inner_name p ≡ now → HasLeast at (inner_name p) least →
    ((q : InnerPtr) → more q ≡ true → (q ≡ p) ⊎ (passed q ≡ true)) → IsDown at more start least
down_more {A} {at} {passed} {more} {start} {now} p least down is has either =
    let here : bottom_of start down.names ≡ inner_name p = down.ends ∙ sym is in record {
      names = down.names ++ least ∷ [];
      descent = descent_more at start down.names least down.descent (subst (λ n. HasLeast at n least) (sym here) has);
      ends = bottom_more start down.names least;
      passes = λ q e. above_more start down.names least (inner_name q) (go q (either q e));
    }
  where
    go : (q : InnerPtr) → (q ≡ p) ⊎ (passed q ≡ true) → (bottom_of start down.names ≡ inner_name q) ⊎ IsIn (inner_name q) (above start down.names)
    go q (inl same) = inl (down.ends ∙ sym is ∙ ap inner_name (sym same))
    go q (inr e) = inr (down.passes q e)

-- ---- where a descent ends
module _ {K V : Type 0} (bytes : K × V → List ℕ) (P : ℕ) (s : Nodes K V) {passed : InnerPtr → Bool} {start now : OpaqueNodePtr}
    (down : IsDown (node_at s) passed start now) where
  pub ends_at_leaf : (p : LeafPtr) (found : Option LeafPtr) (o : Option (LeafNode K V)) → leaf_name p ≡ now → map.get s.leaves p ≡ o →
      found ≡ option_map (λ _. p) o → IsLeastLeaf bytes P s start found
  ends_at_leaf p found None is gone e =
      subst (IsLeastLeaf bytes P s start) (sym e)
      (down.names, down.descent, λ root needed. inl (ap (node_at s) (down.ends ∙ sym is) ∙ none_at_leaf s p gone))
  ends_at_leaf p found (Some node) is there e =
      subst (IsLeastLeaf bytes P s start) (sym e) (down.names, pair_of node, down.descent, down.ends ∙ sym is, leaf_at s p node there)

  module _ (p : InnerPtr) (proper : p.kind ≢ Leaf) (is : inner_name p ≡ now) where
    pub ends_nowhere : map.get s.inners p ≡ None → IsLeastLeaf bytes P s start None
    ends_nowhere gone = (down.names, down.descent, λ root needed. inl (ap (node_at s) (down.ends ∙ sym is) ∙ none_at_inner s p proper gone))

    pub ends_again : passed p ≡ true → IsLeastLeaf bytes P s start None
    ends_again again = (
      down.names,
      down.descent,
      λ root needed. inr (inr (inl (met_twice start down.names
          (subst (λ n. IsIn n (above start down.names)) (is ∙ sym down.ends) (down.passes p again))))),
    )

    pub ends_childless : (node : Inner) → map.get s.inners p ≡ Some node → node.children ≡ [] → IsLeastLeaf bytes P s start None
    ends_childless node there none = (
      down.names,
      down.descent,
      λ root needed. inr (inl (
        header_at p.kind node,
        ap (node_at s) (down.ends ∙ sym is) ∙ inner_at s p node proper there
            ∙ ap (λ l. Some (inner_node (header_at p.kind node) l)) none,
      )),
    )

-- the least leaf of a node is that of its least child
pub least_below : {K V : Type 0} (bytes : K × V → List ℕ) (P : ℕ) (s : Nodes K V) (name : OpaqueNodePtr) (h : NodeHeader) (b : ℕ) (first : OpaqueNodePtr)
    (others : List (ℕ × OpaqueNodePtr)) (found : LeafPtr) → node_at s name ≡ Some (inner_node h ((b, first) ∷ others)) →
    IsLeastLeaf bytes P s name (Some found) → IsLeastLeaf bytes P s first (Some found)
least_below bytes P s name h b first others found there ([], x, d, ends, leaf) =
    absurd (leaf_name_is s found h ((b, first) ∷ others) (ap (node_at s) (sym ends) ∙ there))
least_below bytes P s name h b first others found there (n ∷ ns, x, d, ends, leaf) =
    let other = d.0.3 in
    let both : ◌≡◌ {A = ℕ × OpaqueNodePtr} (d.0.1, n) (b, first) = cc in
    let same : n ≡ first = ap (λ c. c.1) both in
    (ns, x, subst (λ k. IsDescent (node_at s) k ns) same d.1, subst (λ k. bottom_of k ns ≡ leaf_name found) same ends, leaf)
