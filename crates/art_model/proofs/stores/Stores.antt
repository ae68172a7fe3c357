-- Layouts in a store: what is held stays held where nodes stay (the frame law), and a change in the hole of a path leaves a layout (replacement).
use Rattle.std.proofs.Common.{◌≡◌, ◌≢◌, List, [], ◌∷◌, ◌++◌, sym, ◌∙◌, subst, Option, Some, None, inl, inr}
use Rattle.std.specs.List.{AllByRecursion as Each}
use Rattle.art_model.specs.Prelude.{Tree, leaf, inner, Subtrees, child, no_child, join, Frame, fill, plug, HoldsPath, names_before, names_after, Node, inner_node, name_of, slots_of, names_of, names_below, Holds, HoldsBelow, AreDistinct, IsIn}
use Rattle.art_model.proofs.lists.Lists.{Each-left, Each-right, each_in, each_from, in_left, in_right}
use Rattle.art_model.proofs.lists.Pairwises.{Pairwise-left, Pairwise-right}
use Rattle.art_model.proofs.places.Paths.{slots_of-join, names_of-plug}
use Rattle.art_model.proofs.stores.Names.{IsTaken, all_taken, apart_in, OldOrFree, distinct_replaced}

module _ {N A : Type 0} where
  module _ (at : N → Option (Node N A)) where
    -- joined children are held where both are
    pub HoldsBelow-join : (cs ds : Subtrees N A) → HoldsBelow at cs → HoldsBelow at ds → HoldsBelow at (join cs ds)
    HoldsBelow-join no_child ds h k = k
    HoldsBelow-join (child b t cs) ds h k = (h.0, HoldsBelow-join cs ds h.1 k)

    -- and so are those on the left
    pub HoldsBelow-left : (cs ds : Subtrees N A) → HoldsBelow at (join cs ds) → HoldsBelow at cs
    HoldsBelow-left no_child ds h = tt
    HoldsBelow-left (child b t cs) ds h = (h.0, HoldsBelow-left cs ds h.1)

    -- and those on the right
    pub HoldsBelow-right : (cs ds : Subtrees N A) → HoldsBelow at (join cs ds) → HoldsBelow at ds
    HoldsBelow-right no_child ds h = h
    HoldsBelow-right (child b t cs) ds h = HoldsBelow-right cs ds h.1

    -- a layout is held where its path and its subtree are
    plug_holds : (fs : List (Frame N A)) (t : Tree N A) → HoldsPath at (name_of t) fs → Holds at t → Holds at (plug fs t)
    plug_holds [] t path h = h
    plug_holds (f ∷ fs) t (e, l, r, path) h = plug_holds fs (fill f t) path (rw slots_of-join e, HoldsBelow-join f.left (child f.byte t f.right) l (h, r))

    -- and the other way round
    pub path_holds : (fs : List (Frame N A)) (t : Tree N A) → Holds at (plug fs t) → HoldsPath at (name_of t) fs × Holds at t
    path_holds [] t h = (tt, h)
    path_holds (f ∷ fs) t h =
        let (path, (e, below)) = path_holds fs (fill f t) h in
        let r = HoldsBelow-right f.left (child f.byte t f.right) below in
        ((rw slots_of-join at e, HoldsBelow-left f.left (child f.byte t f.right) below, r.1, path), r.0)

  -- the frame law: a layout is held wherever its names have the same nodes
  module _ (at to : N → Option (Node N A)) where
    mutual
      -- a layout
      pub frame : (t : Tree N A) → Each (λ n. to n ≡ at n) (names_of t) → Holds at t → Holds to t
      frame (leaf n x) same h = same.0 ∙ h
      frame (inner n h cs) same holds = (same.0 ∙ holds.0, frame_below cs same.1 holds.1)

      pub frame_below : (cs : Subtrees N A) → Each (λ n. to n ≡ at n) (names_below cs) → HoldsBelow at cs → HoldsBelow to cs
      frame_below no_child same h = tt
      frame_below (child b t cs) same h = (
        frame t (Each-left (λ n. to n ≡ at n) (names_of t) (names_below cs) same) h.0,
        frame_below cs (Each-right (λ n. to n ≡ at n) (names_of t) (names_below cs) same) h.1,
      )

    -- a path
    frame_path : (fs : List (Frame N A)) (hole : N) → Each (λ n. to n ≡ at n) (names_before fs) →
        Each (λ n. to n ≡ at n) (names_after fs) → HoldsPath at hole fs → HoldsPath to hole fs
    frame_path [] hole l r h = tt
    frame_path (f ∷ fs) hole l r (e, hl, hr, path) =
        let Q = λ (n : N). to n ≡ at n in
        let own = Each-right Q (names_before fs) (f.mark ∷ names_below f.left) l in (
          own.0 ∙ e,
          frame_below f.left own.1 hl,
          frame_below f.right (Each-left Q (names_below f.right) (names_after fs) r) hr,
          frame_path fs f.mark (Each-left Q (names_before fs) (f.mark ∷ names_below f.left) l) (Each-right Q (names_below f.right) (names_after fs) r) path,
        )

-- ---- a change in the hole of a path

module _ {N A : Type 0} where
  -- the name is that of the innermost node of the path
  abbrev pub IsParent : List (Frame N A) → N → Type 0
  IsParent [] k = ⊥
  IsParent (g ∷ gs) k = k ≡ g.mark

  -- the innermost node of the path has this name in its hole
  abbrev pub ParentHas : (N → Option (Node N A)) → List (Frame N A) → N → Type 0
  ParentHas to [] name = Unit {0}
  ParentHas to (g ∷ gs) name = to g.mark ≡ Some (inner_node g.header (slots_of g.left ++ (g.byte, name) ∷ slots_of g.right))

  -- all names in use but the parent's and these have the same nodes as before
  abbrev pub SameBut : (N → Option (Node N A)) → (N → Option (Node N A)) → List (Frame N A) → List N → Type 0
  SameBut at to fs touched = (k : N) → (IsParent fs k → ⊥) → (IsIn k touched → ⊥) → (at k ≡ None → ⊥) → to k ≡ at k

  -- the new tree in the hole is held, under distinct names that the old one has or that were free
  pub record Regrown (at to : N → Option (Node N A)) (t u : Tree N A) : Type 0 where
    pub holds : Holds to u
    pub distinct : AreDistinct (names_of u)
    pub old_or_free : OldOrFree at (names_of t) (names_of u)

module _ {N A : Type 0} (at to : N → Option (Node N A)) (fs : List (Frame N A)) (t : Tree N A) (holds : Holds at (plug fs t))
    (distinct : AreDistinct (names_of (plug fs t))) where
  -- the names before the hole, in it and after it are distinct
  all_distinct : AreDistinct (names_before fs ++ names_of t ++ names_after fs)
  all_distinct = subst AreDistinct (names_of-plug fs t) distinct

  -- and so are those of the hole
  pub hole_distinct : AreDistinct (names_of t)
  hole_distinct = Pairwise-right ◌≢◌ (names_before fs) (names_of t) (Pairwise-left ◌≢◌ (names_before fs ++ names_of t) (names_after fs) all_distinct)

  every_taken : Each (IsTaken at) (names_before fs ++ names_of t ++ names_after fs)
  every_taken = subst (Each (IsTaken at)) (names_of-plug fs t) (all_taken at (plug fs t) holds)

  before_taken : Each (IsTaken at) (names_before fs)
  before_taken = Each-left (IsTaken at) (names_before fs) (names_of t) (Each-left (IsTaken at) (names_before fs ++ names_of t) (names_after fs) every_taken)

  after_taken : Each (IsTaken at) (names_after fs)
  after_taken = Each-right (IsTaken at) (names_before fs ++ names_of t) (names_after fs) every_taken

  -- names of the hole are in use
  hole_taken : (k : N) → IsIn k (names_of t) → at k ≡ None → ⊥
  hole_taken k i = each_in (IsTaken at) k (names_of t)
      (Each-right (IsTaken at) (names_before fs) (names_of t)
      (Each-left (IsTaken at) (names_before fs ++ names_of t) (names_after fs) every_taken)) i

  -- no name of the hole is on the path or before the hole
  pub before_apart : (k : N) → IsIn k (names_before fs) → IsIn k (names_of t) → ⊥
  before_apart k i j = apart_in (names_before fs) (names_of t) k (Pairwise-left ◌≢◌ (names_before fs ++ names_of t) (names_after fs) all_distinct) i j

  -- nor after it
  pub after_apart : (k : N) → IsIn k (names_of t) → IsIn k (names_after fs) → ⊥
  after_apart k i j = apart_in (names_before fs ++ names_of t) (names_after fs) k all_distinct (in_right k (names_before fs) (names_of t) i) j

module _ {N A : Type 0} where
  -- the parent's name is before the hole
  pub parent_before : (fs : List (Frame N A)) (k : N) → IsParent fs k → IsIn k (names_before fs)
  parent_before [] k is = absurd is
  parent_before (g ∷ gs) k is = in_right k (names_before gs) (g.mark ∷ names_below g.left) (inl (sym is))

  -- the parent is no node of the hole
  pub parent_apart : (at to : N → Option (Node N A)) (fs : List (Frame N A)) (t : Tree N A) → Holds at (plug fs t) →
      AreDistinct (names_of (plug fs t)) → (k : N) → IsParent fs k → IsIn k (names_of t) → ⊥
  parent_apart at to fs t holds distinct k is i = before_apart at to fs t holds distinct k (parent_before fs k is) i

module _ {N A : Type 0} (at to : N → Option (Node N A)) (g : Frame N A) (gs : List (Frame N A)) (t : Tree N A) (holds : Holds at (plug (g ∷ gs) t))
    (distinct : AreDistinct (names_of (plug (g ∷ gs) t))) (same : SameBut at to (g ∷ gs) (names_of t)) where
  mark_first : AreDistinct (names_before gs ++ g.mark ∷ names_below g.left)
  mark_first =
      let all = all_distinct at to (g ∷ gs) t holds distinct in
      Pairwise-left ◌≢◌ (names_before (g ∷ gs)) (names_of t) (Pairwise-left ◌≢◌ (names_before (g ∷ gs) ++ names_of t) (names_after (g ∷ gs)) all)

  kept_before : (k : N) → IsIn k (names_before (g ∷ gs)) → k ≢ g.mark → to k ≡ at k
  kept_before k i off = same k off (before_apart at to (g ∷ gs) t holds distinct k i)
      (each_in (IsTaken at) k (names_before (g ∷ gs)) (before_taken at to (g ∷ gs) t holds distinct) i)

  same_above : Each (λ k. to k ≡ at k) (names_before gs)
  same_above =
      each_from (λ k. to k ≡ at k) (names_before gs) (λ k i. kept_before k (in_left k (names_before gs) (g.mark ∷ names_below g.left) i)
      (λ e. apart_in (names_before gs) (g.mark ∷ names_below g.left) k mark_first i (inl (sym e))))

  same_left : Each (λ k. to k ≡ at k) (names_below g.left)
  same_left =
      each_from (λ k. to k ≡ at k) (names_below g.left) (λ k i. kept_before k (in_right k (names_before gs) (g.mark ∷ names_below g.left) (inr i))
      (λ e. each_in (λ z. g.mark ≢ z) k (names_below g.left) (Pairwise-right ◌≢◌ (names_before gs) (g.mark ∷ names_below g.left) mark_first).0 i (sym e)))

  same_after : Each (λ k. to k ≡ at k) (names_after (g ∷ gs))
  same_after = each_from (λ k. to k ≡ at k) (names_after (g ∷ gs)) (λ k i. same k
      (λ e. apart_in (names_before (g ∷ gs) ++ names_of t) (names_after (g ∷ gs)) k (all_distinct at to (g ∷ gs) t holds distinct)
      (in_left k (names_before (g ∷ gs)) (names_of t) (parent_before (g ∷ gs) k e)) i)
      (λ j. after_apart at to (g ∷ gs) t holds distinct k j i)
      (each_in (IsTaken at) k (names_after (g ∷ gs)) (after_taken at to (g ∷ gs) t holds distinct) i))

  path_replaced : (name : N) → ParentHas to (g ∷ gs) name → HoldsPath to name (g ∷ gs)
  path_replaced name parent =
      let ((e, l, r, path), it) = path_holds at (g ∷ gs) t holds in
      let S = λ (k : N). to k ≡ at k in
      let same_right = Each-left S (names_below g.right) (names_after gs) same_after in (
        parent,
        frame_below at to g.left same_left l,
        frame_below at to g.right same_right r,
        frame_path at to gs g.mark same_above
            (Each-right S (names_below g.right) (names_after gs) same_after) path,
      )

-- the replacement law: another tree is in the hole, the parent names it, and the rest is unchanged
module _ {N A : Type 0} (at to : N → Option (Node N A)) where
  -- the whole is a layout again
  pub replace : (fs : List (Frame N A)) (t u : Tree N A) → Holds at (plug fs t) → AreDistinct (names_of (plug fs t)) → ParentHas to fs (name_of u) →
      Regrown at to t u → SameBut at to fs (names_of t) → Holds to (plug fs u) × AreDistinct (names_of (plug fs u))
  replace [] t u holds distinct parent new same = (new.holds, new.distinct)
  replace (g ∷ gs) t u holds distinct parent new same =
      let fs = g ∷ gs in (
        plug_holds to fs u (path_replaced at to g gs t holds distinct same (name_of u) parent) new.holds,
        subst AreDistinct (sym (names_of-plug fs u)) (distinct_replaced at (names_before fs) (names_of t) (names_of u) (names_after fs)
            (all_distinct at to fs t holds distinct) (before_taken at to fs t holds distinct)
            (after_taken at to fs t holds distinct) new.distinct new.old_or_free),
      )

  -- names of the hole that are not touched have the same nodes as before
  pub stays : (fs : List (Frame N A)) (t : Tree N A) → Holds at (plug fs t) → AreDistinct (names_of (plug fs t)) → (touched : List N) →
      SameBut at to fs touched → (k : N) → IsIn k (names_of t) → (IsIn k touched → ⊥) → to k ≡ at k
  stays fs t holds distinct touched same k i off = same k (λ is. parent_apart at to fs t holds distinct k is i) off (hole_taken at to fs t holds distinct k i)
