-- the laws of the tree of a map
use Rattle.std.proofs.Common.{◌≡◌, ℕ, ◌+◌, ◌≤◌, List, [], ◌∷◌, ◌++◌, length, drop, refl, ap, ap₂, sym, ◌∙◌, arith, length-append, subst, Some}
use Rattle.art_model.specs.Prelude.{IsFront, common_front, Tree, leaf, inner, Subtrees, child, no_child, shared_part, node_of, tree_of, pairs_of, unmarked, all_unmarked, bytes_of, HaveChildren, HaveChildrenBelow, IsRadix, AreRadix, leaf_names, leaf_names_below, inner_names, inner_names_below}
use Rattle.art_model.specs.TreeLaws.{PartIsShared, PartIsLongest, IsBuiltByGrouping, HasTree, IsTreeOfItsPairs, IsOneTree, HaveTwoChildren, HasFewInnerNodes}
use Rattle.art_model.proofs.lists.Lists.{common_front-append}
use Rattle.art_model.proofs.radix.Groups.{shared_part_shared}
use Rattle.art_model.proofs.radix.Build.{build, build_root}
use Rattle.art_model.proofs.radix.Rebuild.{rebuild_root, rebuild_node}
use Rattle.art_model.proofs.radix.Radix.{radix_map}

front_of_both : (p a b : List ℕ) → IsFront p a → IsFront p b → IsFront p (common_front a b)
front_of_both p a b (r, e) (s, f) = (common_front r s, rw (e, f) (common_front-append p r s))

module _ {A : Type 0} where
  mutual
    unmarked_plain : (t : Tree (Unit {0}) A) → unmarked t ≡ t
    unmarked_plain (leaf u x) = refl
    unmarked_plain (inner u h cs) = ap (inner tt h) (all_unmarked_plain cs)

    all_unmarked_plain : (cs : Subtrees (Unit {0}) A) → all_unmarked cs ≡ cs
    all_unmarked_plain no_child = refl
    all_unmarked_plain (child b t cs) = ap₂ (child b) (unmarked_plain t) (all_unmarked_plain cs)

module _ {A : Type 0} (bytes : A → List ℕ) where
  pub part_is_shared : PartIsShared bytes
  part_is_shared d pairs = shared_part_shared bytes d pairs

  pub part_is_longest : PartIsLongest bytes
  part_is_longest d x [] part h = h.0
  part_is_longest d x (y ∷ pairs) part h = front_of_both part (drop d (bytes x)) (shared_part bytes d (y ∷ pairs)) h.0 (part_is_longest d y pairs part h.1)

  module _ (P : ℕ) where
    pub is_built_by_grouping : IsBuiltByGrouping bytes P
    is_built_by_grouping place x y rest map fronts =
        let (t, made, radix, its) = build bytes P (length (x ∷ y ∷ rest)) place (x ∷ y ∷ rest) map fronts (omega arith) (omega arith) in
        made ∙ go t radix its
      where
        go : (t : Tree (Unit {0}) A) → IsRadix bytes P place t → pairs_of t ≡ x ∷ y ∷ rest →
            Some t ≡ node_of bytes (λ d group. tree_of bytes group P d) P (length place) (x ∷ y ∷ rest)
        go (leaf u z) radix its = absurd cc
        go (inner u h cs) radix its =
            sym (subst (λ xs. node_of bytes (λ d group. tree_of bytes group P d) P (length place) xs ≡ Some (inner tt h cs)) its
            (rebuild_node bytes P u h cs place radix ∙ ap Some (unmarked_plain (inner u h cs))))

    pub has_tree : HasTree bytes P
    has_tree x pairs map = let (t, made, radix, its) = build_root bytes P (x ∷ pairs) map (omega arith) in (t, made, its, radix)

    pub is_tree_of_its_pairs : IsTreeOfItsPairs bytes P
    is_tree_of_its_pairs t radix = (radix_map bytes P t [] radix, rebuild_root bytes P t radix ∙ ap Some (unmarked_plain t))

    pub is_one_tree : IsOneTree bytes P
    is_one_tree t u one other same =
        let first = (is_tree_of_its_pairs t one).1 in
        let second = (is_tree_of_its_pairs u other).1 in
        let both : Some t ≡ Some u = sym first ∙ ap (λ xs. tree_of bytes xs P 0) same ∙ second in
        cc

module _ {N A : Type 0} where
  module _ (bytes : A → List ℕ) (P : ℕ) where
    mutual
      radix_children : (t : Tree N A) (place : List ℕ) → IsRadix bytes P place t → HaveChildren 2 t
      radix_children (leaf n x) place h = tt
      radix_children (inner n h cs) place (part, e, two, up, below) = (two, radix_children_below cs (place ++ part) below)

      radix_children_below : (cs : Subtrees N A) (front : List ℕ) → AreRadix bytes P front cs → HaveChildrenBelow 2 cs
      radix_children_below no_child front h = tt
      radix_children_below (child b t cs) front h = (radix_children t (front ++ b ∷ []) h.0, radix_children_below cs front h.1)

  pub have_two_children : HaveTwoChildren N A
  have_two_children bytes P place t h = radix_children bytes P t place h

  -- a node with at least two children has at least one
  mutual
    pub one_child : (t : Tree N A) → HaveChildren 2 t → HaveChildren 1 t
    one_child (leaf n x) h = tt
    one_child (inner n h cs) two = (let some = two.0 in omega arith, one_child_below cs two.1)

    one_child_below : (cs : Subtrees N A) → HaveChildrenBelow 2 cs → HaveChildrenBelow 1 cs
    one_child_below no_child h = tt
    one_child_below (child b t cs) h = (one_child t h.0, one_child_below cs h.1)

  mutual
    pub has_few_inner_nodes : HasFewInnerNodes N A
    has_few_inner_nodes (leaf n x) h = omega arith
    has_few_inner_nodes (inner n h cs) two = let few = few_below cs two.1 in let some = two.0 in omega arith

    few_below : (cs : Subtrees N A) → HaveChildrenBelow 2 cs → length (inner_names_below cs) + length (bytes_of cs) ≤ length (leaf_names_below cs)
    few_below no_child h = omega arith
    few_below (child b t cs) h =
        let own = has_few_inner_nodes t h.0 in
        let others = few_below cs h.1 in
        let inners = length-append (inner_names t) (inner_names_below cs) in
        let leaves = length-append (leaf_names t) (leaf_names_below cs) in
        omega arith
