-- The nodes and names of each change: what is in the hole afterwards is held, under distinct names that are old ones or were free.
use Rattle.std.proofs.Common.{◌≡◌, ◌≢◌, ℕ, List, [], ◌∷◌, ◌++◌, ap, sym, ◌∙◌, subst, append_assoc, append-nil, Option, Some, None, true, false, Bool, cond, ltb, ◌⊎◌, inl, inr}
use Rattle.std.specs.List.{AllByRecursion as Each}
use Rattle.art_model.specs.Prelude.{Tree, leaf, inner, Subtrees, child, no_child, NodeHeader, join, Frame, plug, Node, leaf_node, inner_node, slots_of, names_of, names_below, Holds, HoldsBelow, AreDistinct, IsIn}
use Rattle.art_model.proofs.lists.Lists.{Each-append, Each-left, Each-right, Each-weaker, each_in, each_from, in_left, in_right, in_either}
use Rattle.art_model.proofs.lists.Pairwises.{Pairwise-append, Pairwise-right}
use Rattle.art_model.proofs.places.Paths.{names_below-join}
use Rattle.art_model.proofs.changes.Changes.{two_children}
use Rattle.art_model.proofs.stores.Names.{IsTaken, all_taken_below, free_apart, apart_in, OldOrFree, distinct_replaced}
use Rattle.art_model.proofs.stores.Stores.{SameBut, Regrown, HoldsBelow-join, HoldsBelow-left, HoldsBelow-right, path_holds, frame, frame_below, hole_distinct, stays}

module _ {N A : Type 0} (at to : N → Option (Node N A)) where
  -- ---- one leaf

  -- a single leaf, under an old name or a new one
  pub leaf_regrown : (t : Tree N A) (n : N) (new : A) → IsIn n (names_of t) ⊎ (at n ≡ None) → to n ≡ Some (leaf_node new) → Regrown at to t (leaf n new)
  leaf_regrown t n new named there = record { holds = there; distinct = (tt, tt); old_or_free = (named, tt) }

  -- ---- a branch: a subtree and a new leaf below a new node

  -- the tree `u`, which has the names of `t`, is below a new node whose other child is a new leaf
  pub record IsBranch (t u : Tree N A) (m n : N) (h : NodeHeader) (b c : ℕ) (new : A) : Type 0 where
    pub same_names : names_of u ≡ names_of t
    pub node_was_free : at m ≡ None
    pub leaf_was_free : at n ≡ None
    pub differ : m ≢ n
    pub node : to m ≡ Some (inner_node h (slots_of (two_children b u c (leaf n new))))
    pub new_leaf : to n ≡ Some (leaf_node new)
    pub below : Holds to u

  module _ (t u : Tree N A) (m n : N) (h : NodeHeader) (b c : ℕ) (new : A) (held : Holds at t) (distinct : AreDistinct (names_of t))
      (is : IsBranch t u m n h b c new) where
    node_apart : Each (λ k. m ≢ k) (names_of u)
    node_apart = subst (Each (λ k. m ≢ k)) (sym is.same_names)
        (Each-weaker (λ k. k ≢ m) (λ k. m ≢ k) (λ k f e. f (sym e)) (names_of t) (free_apart at m is.node_was_free t held))

    leaf_apart : Each (λ k. k ≢ n) (names_of u)
    leaf_apart = subst (Each (λ k. k ≢ n)) (sym is.same_names) (free_apart at n is.leaf_was_free t held)

    still_distinct : AreDistinct (names_of u)
    still_distinct = subst AreDistinct (sym is.same_names) distinct

    still_old : OldOrFree at (names_of t) (names_of u)
    still_old = subst (OldOrFree at (names_of t)) (sym is.same_names) (each_from (λ k. IsIn k (names_of t) ⊎ (at k ≡ None)) (names_of t) (λ k i. inl i))

    below_branch : (first : Bool) → let cs = cond first (child b u (child c (leaf n new) no_child)) (child c (leaf n new) (child b u no_child)) in
        HoldsBelow to cs × AreDistinct (m ∷ names_below cs) × OldOrFree at (names_of t) (names_below cs)
    below_branch true = (
      (is.below, (is.new_leaf, tt)),
      (
        Each-append (λ k. m ≢ k) (names_of u) (n ∷ []) node_apart (is.differ, tt),
        Pairwise-append ◌≢◌ (names_of u) (n ∷ []) still_distinct (tt, tt)
            (Each-weaker (λ k. k ≢ n) (λ k. Each (λ z. k ≢ z) (n ∷ [])) (λ k f. (f, tt)) (names_of u) leaf_apart),
      ),
      Each-append (λ k. IsIn k (names_of t) ⊎ (at k ≡ None)) (names_of u) (n ∷ []) still_old (inr is.leaf_was_free, tt),
    )
    below_branch false =
        let all : names_of u ++ [] ≡ names_of u = append-nil (names_of u) in (
          (is.new_leaf, (is.below, tt)),
          (
            (is.differ, subst (Each (λ k. m ≢ k)) (sym all) node_apart),
            (
              subst (Each (λ k. n ≢ k)) (sym all) (Each-weaker (λ k. k ≢ n) (λ k. n ≢ k) (λ k f e. f (sym e)) (names_of u) leaf_apart),
              subst AreDistinct (sym all) still_distinct,
            ),
          ),
          (inr is.leaf_was_free, subst (OldOrFree at (names_of t)) (sym all) still_old),
        )

    -- a branch
    pub branch_regrown : Regrown at to t (inner m h (two_children b u c (leaf n new)))
    branch_regrown =
        let (holds, apart, old) = below_branch (ltb b c) in
        record { holds = (is.node, holds); distinct = apart; old_or_free = (inr is.node_was_free, old) }

  -- ---- other children between those on the left and those on the right

  -- the node has `middle` between `l` and `r`, where the old one had others; it has the old one's name, or one that was free, as the children in the middle have
  pub record IsRefilled (m node : N) (h : NodeHeader) (l middle r : Subtrees N A) : Type 0 where
    pub named : (node ≡ m) ⊎ (at node ≡ None)
    pub were_free : Each (λ k. at k ≡ None) (names_below middle)
    pub distinct : AreDistinct (names_below middle)
    pub apart : Each (λ k. node ≢ k) (names_below middle)
    pub there : to node ≡ Some (inner_node h (slots_of (join l (join middle r))))
    pub below : HoldsBelow to middle

module _ {N A : Type 0} (at to : N → Option (Node N A)) (fs : List (Frame N A)) (m : N) (h : NodeHeader) (l old r : Subtrees N A)
    (holds : Holds at (plug fs (inner m h (join l (join old r))))) (distinct : AreDistinct (names_of (plug fs (inner m h (join l (join old r)))))) where
  names_three : (xs : Subtrees N A) → names_below (join l (join xs r)) ≡ names_below l ++ (names_below xs ++ names_below r)
  names_three xs = names_below-join l (join xs r) ∙ ap (λ z. names_below l ++ z) (names_below-join xs r)

  own_distinct : AreDistinct (m ∷ (names_below l ++ (names_below old ++ names_below r)))
  own_distinct = subst (λ z. AreDistinct (m ∷ z)) (names_three old) (hole_distinct at to fs (inner m h (join l (join old r))) holds distinct)

  own_held : HoldsBelow at l × HoldsBelow at old × HoldsBelow at r
  own_held =
      let below = (path_holds at fs (inner m h (join l (join old r))) holds).1.1 in
      let rest = HoldsBelow-right at l (join old r) below in
      (HoldsBelow-left at l (join old r) below, HoldsBelow-left at old r rest, HoldsBelow-right at old r rest)

  in_hole : (k : N) → IsIn k (names_below l ++ (names_below old ++ names_below r)) → IsIn k (names_of (inner m h (join l (join old r))))
  in_hole k i = inr (subst (IsIn k) (sym (names_three old)) i)

  in_left_part : (k : N) → IsIn k (names_below l) → IsIn k (names_below l ++ (names_below old ++ names_below r))
  in_left_part k i = in_left k (names_below l) (names_below old ++ names_below r) i

  in_right_part : (k : N) → IsIn k (names_below r) → IsIn k (names_below l ++ (names_below old ++ names_below r))
  in_right_part k i = in_right k (names_below l) (names_below old ++ names_below r) (in_right k (names_below old) (names_below r) i)

  -- names on the left and on the right are neither the node's nor in the middle
  left_apart : (k : N) → IsIn k (names_below l) → IsIn k (m ∷ names_below old) → ⊥
  left_apart k i (inl e) = each_in (λ z. m ≢ z) k (names_below l ++ (names_below old ++ names_below r)) own_distinct.0 (in_left_part k i) e
  left_apart k i (inr j) = apart_in (names_below l) (names_below old ++ names_below r) k own_distinct.1 i (in_left k (names_below old) (names_below r) j)

  -- nor are those on the right
  right_apart : (k : N) → IsIn k (names_below r) → IsIn k (m ∷ names_below old) → ⊥
  right_apart k i (inl e) = each_in (λ z. m ≢ z) k (names_below l ++ (names_below old ++ names_below r)) own_distinct.0 (in_right_part k i) e
  right_apart k i (inr j) =
      apart_in (names_below old) (names_below r) k
      (Pairwise-right ◌≢◌ (names_below l) (names_below old ++ names_below r) own_distinct.1) j i

  module _ (same : SameBut at to fs (m ∷ names_below old)) where
    still : (k : N) → IsIn k (names_below l ++ (names_below old ++ names_below r)) → (IsIn k (m ∷ names_below old) → ⊥) → to k ≡ at k
    still k i off = stays at to fs (inner m h (join l (join old r))) holds distinct (m ∷ names_below old) same k (in_hole k i) off

    -- the children on the left and on the right are held as before
    left_holds : HoldsBelow to l
    left_holds = frame_below at to l (each_from (λ k. to k ≡ at k) (names_below l) (λ k i. still k (in_left_part k i) (left_apart k i))) own_held.0

    -- and those on the right
    right_holds : HoldsBelow to r
    right_holds = frame_below at to r (each_from (λ k. to k ≡ at k) (names_below r) (λ k i. still k (in_right_part k i) (right_apart k i))) own_held.2

  -- their names are distinct
  beside_distinct : AreDistinct (names_below l ++ names_below r)
  beside_distinct =
      subst AreDistinct (ap (λ z. z ++ names_below r) (append-nil (names_below l)))
      (distinct_replaced at (names_below l) (names_below old) [] (names_below r)
      (subst AreDistinct (sym (append_assoc (names_below l) (names_below old) (names_below r))) own_distinct.1)
      (all_taken_below at l own_held.0) (all_taken_below at r own_held.2) tt tt)

  module _ (node : N) (head : NodeHeader) (middle : Subtrees N A) (is : IsRefilled at to m node head l middle r) where
    middle_distinct : AreDistinct (names_below l ++ names_below middle ++ names_below r)
    middle_distinct =
        distinct_replaced at (names_below l) (names_below old) (names_below middle) (names_below r)
        (subst AreDistinct (sym (append_assoc (names_below l) (names_below old) (names_below r))) own_distinct.1)
        (all_taken_below at l own_held.0) (all_taken_below at r own_held.2) is.distinct
        (Each-weaker (λ k. at k ≡ None) (λ k. IsIn k (names_below old) ⊎ (at k ≡ None)) (λ k f. inr f) (names_below middle) is.were_free)

    node_differs : (cs : Subtrees N A) → HoldsBelow at cs → Each (λ k. m ≢ k) (names_below cs) → Each (λ k. node ≢ k) (names_below cs)
    node_differs cs held off = elim is.named [
      | inl e ↦ subst (λ z. Each (λ k. z ≢ k) (names_below cs)) (sym e) off
      | inr free ↦ Each-weaker (IsTaken at) (λ k. node ≢ k) (λ k used e. used (sym (ap at e) ∙ free)) (names_below cs) (all_taken_below at cs held)
    ]

    refilled_names : names_below (join l (join middle r)) ≡ names_below l ++ (names_below middle ++ names_below r)
    refilled_names = names_three middle

    -- a node with other children in the middle
    pub children_regrown : SameBut at to fs (m ∷ names_below old) → Regrown at to (inner m h (join l (join old r))) (inner node head (join l (join middle r)))
    children_regrown same =
        let rest = names_below old ++ names_below r in
        let off_l = Each-left (λ k. m ≢ k) (names_below l) rest own_distinct.0 in
        let off_r = Each-right (λ k. m ≢ k) (names_below old) (names_below r) (Each-right (λ k. m ≢ k) (names_below l) rest own_distinct.0) in
        let Old = λ (k : N). IsIn k (names_of (inner m h (join l (join old r)))) ⊎ (at k ≡ None) in
        record {
          holds = (is.there, HoldsBelow-join to l (join middle r) (left_holds same) (HoldsBelow-join to middle r is.below (right_holds same)));
          distinct = subst (λ z. AreDistinct (node ∷ z)) (sym refilled_names) (
            Each-append (λ k. node ≢ k) (names_below l) (names_below middle ++ names_below r) (node_differs l own_held.0 off_l)
                (Each-append (λ k. node ≢ k) (names_below middle) (names_below r) is.apart (node_differs r own_held.2 off_r)),
            subst AreDistinct (append_assoc (names_below l) (names_below middle) (names_below r)) middle_distinct,
          );
          old_or_free = (
            elim is.named [ inl e ↦ inl (inl (sym e)) | inr free ↦ inr free ],
            subst (Each Old) (sym refilled_names) (Each-append Old (names_below l) (names_below middle ++ names_below r)
                (each_from Old (names_below l) (λ k i. inl (in_hole k (in_left_part k i))))
                (Each-append Old (names_below middle) (names_below r) (Each-weaker (λ k. at k ≡ None) Old (λ k f. inr f) (names_below middle)
                is.were_free) (each_from Old (names_below r) (λ k i. inl (in_hole k (in_right_part k i)))))),
          );
        }

  -- ---- the one child that is left replaces its parent

  -- the tree `u`, which has the names of the child that is left, replaces the node
  pub lifted_regrown : (c : ℕ) (v u : Tree N A) → join l r ≡ child c v no_child → names_of u ≡ names_of v → Holds to u →
      Regrown at to (inner m h (join l (join old r))) u
  lifted_regrown c v u one same_names held =
      let left : names_below l ++ names_below r ≡ names_of u = sym (names_below-join l r) ∙ ap names_below one ∙ append-nil (names_of v) ∙ sym same_names in
      let Old = λ (k : N). IsIn k (names_of (inner m h (join l (join old r)))) ⊎ (at k ≡ None) in
      record {
        holds = held;
        distinct = subst AreDistinct left beside_distinct;
        old_or_free =
            subst (Each Old) left (Each-append Old (names_below l) (names_below r)
            (each_from Old (names_below l) (λ k i. inl (in_hole k (in_left_part k i))))
            (each_from Old (names_below r) (λ k i. inl (in_hole k (in_right_part k i)))));
      }

  module _ (c : ℕ) (v : Tree N A) (one : join l r ≡ child c v no_child) where
    left_names : names_below l ++ names_below r ≡ names_of v
    left_names = sym (names_below-join l r) ∙ ap names_below one ∙ append-nil (names_of v)

    -- the child that is left is held in the old store
    pub left_child_held : Holds at v
    left_child_held = (subst (HoldsBelow at) one (HoldsBelow-join at l r own_held.0 own_held.2)).0

    -- under distinct names
    left_child_distinct : AreDistinct (names_of v)
    left_child_distinct = subst AreDistinct left_names beside_distinct

    -- its names are among those of the hole
    pub lifted_in : (k : N) → IsIn k (names_of v) → IsIn k (names_of (inner m h (join l (join old r))))
    lifted_in k i = elim (in_either k (names_below l) (names_below r) (subst (IsIn k) (sym left_names) i)) [
      | inl j ↦ in_hole k
          (in_left_part k j)
      | inr j ↦ in_hole k (in_right_part k j)
    ]

    -- they have the same nodes as before
    left_child_still : (touched : List N) → SameBut at to fs (touched ++ m ∷ names_below old) → (k : N) → IsIn k (names_of v) →
        (IsIn k touched → ⊥) → to k ≡ at k
    left_child_still touched same k i off = go (in_either k (names_below l) (names_below r) (subst (IsIn k) (sym left_names) i))
      where
        all : List N
        all = touched ++ m ∷ names_below old

        unless : (IsIn k (m ∷ names_below old) → ⊥) → IsIn k all → ⊥
        unless apart j = elim (in_either k touched (m ∷ names_below old) j) [ inl a ↦ off a | inr b ↦ apart b ]

        go : IsIn k (names_below l) ⊎ IsIn k (names_below r) → to k ≡ at k
        go (inl j) = stays at to fs (inner m h (join l (join old r))) holds distinct all same k (in_hole k (in_left_part k j)) (unless (left_apart k j))
        go (inr j) = stays at to fs (inner m h (join l (join old r))) holds distinct all same k (in_hole k (in_right_part k j)) (unless (right_apart k j))

    -- it is held as before where none of its nodes changed
    pub left_child_holds : SameBut at to fs (m ∷ names_below old) → Holds to v
    left_child_holds same = frame at to v (each_from (λ k. to k ≡ at k) (names_of v) (λ k i. left_child_still [] same k i (λ j. j))) left_child_held

  -- where the child is an inner node, all below it is
  pub left_child_below : (c : ℕ) (k : N) (head : NodeHeader) (cs : Subtrees N A) → join l r ≡ child c (inner k head cs) no_child →
      SameBut at to fs (k ∷ m ∷ names_below old) → HoldsBelow to cs
  left_child_below c k head cs one same =
      let d = left_child_distinct c (inner k head cs) one in
      frame_below at to cs (each_from (λ j. to j ≡ at j) (names_below cs)
      (λ j i. left_child_still c (inner k head cs) one (k ∷ []) same j (inr i) (λ a. not_head j i d.0 a))) (left_child_held c (inner k head cs) one).1
    where
      not_head : (j : N) → IsIn j (names_below cs) → Each (λ z. k ≢ z) (names_below cs) → IsIn j (k ∷ []) → ⊥
      not_head j i off (inl e) = each_in (λ z. k ≢ z) j (names_below cs) off i e
      not_head j i off (inr a) = a
