-- The names of a layout: those of its leaves and of its inner nodes are among them, distinct ones stay distinct, and all are in use.
use Rattle.std.proofs.Common.{◌≡◌, ◌≢◌, ℕ, List, [], ◌∷◌, ◌++◌, refl, ap, sym, ◌∙◌, subst, Option, None, ◌⊎◌, inl, inr}
use Rattle.std.specs.List.{AllByRecursion as Each}
use Rattle.art_model.specs.Prelude.{Tree, leaf, inner, Subtrees, child, no_child, NodeHeader, Node, AreDistinct, Holds, HoldsBelow, name_of, names_of, names_below, leaf_names, leaf_names_below, inner_names, inner_names_below, IsIn}
use Rattle.art_model.proofs.lists.Lists.{Each-append, Each-left, Each-right, Each-weaker, each_in, each_from}
use Rattle.art_model.proofs.lists.Pairwises.{Pairwise-left, Pairwise-right, Pairwise-append, Pairwise-across, Pairwise-after, Pairwise-in}

module _ {N : Type 0} where
  -- a name after one of distinct names differs from it
  pub apart_after : (xs ys : List N) (n : N) → AreDistinct (xs ++ n ∷ ys) → Each (λ k. k ≢ n) ys
  apart_after xs ys n d = Each-weaker (λ k. n ≢ k) (λ k. k ≢ n) (λ k f e. f (sym e)) ys (Pairwise-after ◌≢◌ xs ys n d)

  -- no name is in both parts of distinct names
  pub apart_in : (xs ys : List N) (k : N) → AreDistinct (xs ++ ys) → IsIn k xs → IsIn k ys → ⊥
  apart_in xs ys k d i j = Pairwise-in ◌≢◌ xs ys k k d i j refl

-- a tree's own name is one of its names
pub own_name : {N A : Type 0} (t : Tree N A) → IsIn (name_of t) (names_of t)
own_name (leaf n x) = inl refl
own_name (inner n h cs) = inl refl

-- ---- the names of the leaves, and those of the inner nodes

-- a function that takes some of a layout's names: of each node its own name, or none
pub record TakesNames {N A : Type 0} (part : Tree N A → List N) (parts : Subtrees N A → List N) : Type 0 where
  pub of_leaf : (n : N) (x : A) → (part (leaf n x) ≡ []) ⊎ (part (leaf n x) ≡ n ∷ [])
  pub of_inner : (n : N) (h : NodeHeader) (cs : Subtrees N A) → (part (inner n h cs) ≡ parts cs) ⊎ (part (inner n h cs) ≡ n ∷ parts cs)
  pub of_none : parts no_child ≡ []
  pub of_child : (b : ℕ) (t : Tree N A) (cs : Subtrees N A) → parts (child b t cs) ≡ part t ++ parts cs

module _ {N A : Type 0} {part : Tree N A → List N} {parts : Subtrees N A → List N} (takes : TakesNames part parts) where
  mutual
    -- what holds of each name holds of those that are taken
    pub among : (Q : N → Type 0) (t : Tree N A) → Each Q (names_of t) → Each Q (part t)
    among Q (leaf n x) h = elim (takes.of_leaf n x) [ inl e ↦ subst (Each Q) (sym e) tt | inr e ↦ subst (Each Q) (sym e) h ]
    among Q (inner n h cs) k =
        elim (takes.of_inner n h cs) [
          | inl e ↦ subst (Each Q) (sym e) (among_below Q cs k.1)
          | inr e ↦ subst (Each Q) (sym e)
              (k.0, among_below Q cs k.1)
        ]

    pub among_below : (Q : N → Type 0) (cs : Subtrees N A) → Each Q (names_below cs) → Each Q (parts cs)
    among_below Q no_child h = subst (Each Q) (sym takes.of_none) tt
    among_below Q (child b t cs) h =
        subst (Each Q) (sym (takes.of_child b t cs)) (Each-append Q (part t) (parts cs) (among Q t (Each-left Q (names_of t) (names_below cs) h))
        (among_below Q cs (Each-right Q (names_of t) (names_below cs) h)))

  -- so those that are taken are names of the tree
  pub taken_in : (t : Tree N A) (k : N) → IsIn k (part t) → IsIn k (names_of t)
  taken_in t k i =
      each_in (λ n. IsIn n (names_of t)) k (part t)
      (among (λ n. IsIn n (names_of t)) t (each_from (λ n. IsIn n (names_of t)) (names_of t) (λ n j. j))) i

  mutual
    -- of distinct names those that are taken are distinct
    pub taken_distinct : (t : Tree N A) → AreDistinct (names_of t) → AreDistinct (part t)
    taken_distinct (leaf n x) d = elim (takes.of_leaf n x) [ inl e ↦ subst AreDistinct (sym e) tt | inr e ↦ subst AreDistinct (sym e) d ]
    taken_distinct (inner n h cs) d = elim (takes.of_inner n h cs) [
      | inl e ↦ subst AreDistinct (sym e) (taken_distinct_below cs d.1)
      | inr e ↦ subst AreDistinct (sym e) (among_below (λ k. n ≢ k) cs d.0, taken_distinct_below cs d.1)
    ]

    taken_distinct_below : (cs : Subtrees N A) → AreDistinct (names_below cs) → AreDistinct (parts cs)
    taken_distinct_below no_child d = subst AreDistinct (sym takes.of_none) tt
    taken_distinct_below (child b t cs) d =
        let cross = Pairwise-across ◌≢◌ (names_of t) (names_below cs) d in
        subst AreDistinct (sym (takes.of_child b t cs)) (Pairwise-append ◌≢◌ (part t) (parts cs)
        (taken_distinct t (Pairwise-left ◌≢◌ (names_of t) (names_below cs) d)) (taken_distinct_below cs (Pairwise-right ◌≢◌ (names_of t) (names_below cs) d))
        (among (λ x. Each (λ z. x ≢ z) (parts cs)) t (Each-weaker (λ x. Each (λ z. x ≢ z) (names_below cs)) (λ x. Each (λ z. x ≢ z) (parts cs))
        (λ x k. among_below (λ z. x ≢ z) cs k) (names_of t) cross)))

module _ {N A : Type 0} where
  -- the names of the leaves
  pub takes_leaves : TakesNames {N = N} {A = A} leaf_names leaf_names_below
  takes_leaves = record { of_leaf = λ n x. inr refl; of_inner = λ n h cs. inl refl; of_none = refl; of_child = λ b t cs. refl }

  -- the names of the inner nodes
  pub takes_inners : TakesNames {N = N} {A = A} inner_names inner_names_below
  takes_inners = record { of_leaf = λ n x. inl refl; of_inner = λ n h cs. inr refl; of_none = refl; of_child = λ b t cs. refl }

-- ---- names in use and free ones

module _ {N A : Type 0} (at : N → Option (Node N A)) where
  -- the name has a node
  abbrev pub IsTaken : N → Type 0
  IsTaken k = at k ≡ None → ⊥

  mutual
    -- the names of a layout that is held are in use
    pub all_taken : (t : Tree N A) → Holds at t → Each IsTaken (names_of t)
    all_taken (leaf n x) h = ((λ e. absurd cc), tt)
    all_taken (inner n h cs) holds = ((λ e. let f = holds.0 in absurd cc), all_taken_below cs holds.1)

    pub all_taken_below : (cs : Subtrees N A) → HoldsBelow at cs → Each IsTaken (names_below cs)
    all_taken_below no_child h = tt
    all_taken_below (child b t cs) h = Each-append IsTaken (names_of t) (names_below cs) (all_taken t h.0) (all_taken_below cs h.1)

  -- a free name is none of them
  pub free_apart : (n : N) → at n ≡ None → (t : Tree N A) → Holds at t → Each (λ k. k ≢ n) (names_of t)
  free_apart n free t h = Each-weaker IsTaken (λ k. k ≢ n) (λ k used e. used (ap at e ∙ free)) (names_of t) (all_taken t h)

  -- each name is one of the old ones, or was free
  abbrev pub OldOrFree : List N → List N → Type 0
  OldOrFree old new = Each (λ k. IsIn k old ⊎ (at k ≡ None)) new

  -- such names in place of the old ones leave all names distinct
  pub distinct_replaced : (xs old new zs : List N) → AreDistinct (xs ++ old ++ zs) → Each IsTaken xs → Each IsTaken zs → AreDistinct new →
      OldOrFree old new → AreDistinct (xs ++ new ++ zs)
  distinct_replaced xs old new zs all used_x used_z d on =
      let xo = Pairwise-left ◌≢◌ (xs ++ old) zs all in
      let cross = Pairwise-across ◌≢◌ (xs ++ old) zs all in
      Pairwise-append ◌≢◌ (xs ++ new) zs
      (Pairwise-append ◌≢◌ xs new (Pairwise-left ◌≢◌ xs old xo) d (each_from (λ x. Each (λ k. x ≢ k) new) xs
      (λ x i. each_from (λ k. x ≢ k) new (λ k j e. before x k e xo i (each_in (λ k. IsIn k old ⊎ (at k ≡ None)) k new on j)))))
      (Pairwise-right ◌≢◌ (xs ++ old) zs all)
      (Each-append (λ x. Each (λ z. x ≢ z) zs) xs new (Each-left (λ x. Each (λ z. x ≢ z) zs) xs old cross)
      (Each-weaker (λ k. IsIn k old ⊎ (at k ≡ None)) (λ k. Each (λ z. k ≢ z) zs) (λ k. after k (Each-right (λ x. Each (λ z. x ≢ z) zs) xs old cross)) new on))
    where
      before : (x k : N) → x ≡ k → AreDistinct (xs ++ old) → IsIn x xs → IsIn k old ⊎ (at k ≡ None) → ⊥
      before x k e d i (inl o) = apart_in xs old x d i (subst (λ z. IsIn z old) (sym e) o)
      before x k e d i (inr f) = each_in IsTaken x xs used_x i (ap at e ∙ f)

      after : (k : N) → Each (λ o. Each (λ z. o ≢ z) zs) old → IsIn k old ⊎ (at k ≡ None) → Each (λ z. k ≢ z) zs
      after k h (inl i) = each_in (λ o. Each (λ z. o ≢ z) zs) k old h i
      after k h (inr f) = Each-weaker IsTaken (λ z. k ≢ z) (λ z used e. used (sym (ap at e) ∙ f)) zs used_z
