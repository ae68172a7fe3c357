-- The first and the last leaf of a tree whose inner nodes have children, with the path to each.
use Rattle.std.proofs.Common.{◌≡◌, ◌++◌, ◌≤◌, length, List, [], ◌∷◌, Option, Some, None, refl, ap, sym, ◌∙◌, subst, arith, append-nil, ◌⊎◌, inl, inr}
use Rattle.art_model.specs.Prelude.{Tree, leaf, inner, Subtrees, child, no_child, NodeHeader, bytes_of, join, pairs_of, pairs_below, HaveChildren, HaveChildrenBelow, first_of, last_of, Frame, plug, leaf_names, leaf_names_below, first_or, last_or, HasFirstLeaf, HasLastLeaf}
use Rattle.art_model.proofs.places.PlaceLaws.{join_assoc}

module _ {X : Type 0} where
  first_of_front : (xs ys : List X) (x : X) → first_of xs ≡ Some x → first_of (xs ++ ys) ≡ Some x
  first_of_front [] ys x e = absurd cc
  first_of_front (z ∷ xs) ys x e = e

  last_of_back : (xs ys : List X) (x : X) → last_of ys ≡ Some x → last_of (xs ++ ys) ≡ Some x
  last_of_back [] ys x e = e
  last_of_back (z ∷ []) [] x e = absurd cc
  last_of_back (z ∷ []) (y ∷ ys) x e = e
  last_of_back (z ∷ w ∷ xs) ys x e = last_of_back (w ∷ xs) ys x e

  -- both ways to say the first and the last of a list
  pub first_or_of : (xs : List X) → first_or xs None ≡ first_of xs
  first_or_of [] = refl
  first_or_of (x ∷ xs) = refl

  pub last_or_of : (xs : List X) → last_or xs None ≡ last_of xs
  last_or_of [] = refl
  last_or_of (x ∷ xs) = go x xs
    where
      go : (y : X) (ys : List X) → last_or ys (Some y) ≡ last_of (y ∷ ys)
      go y [] = refl
      go y (z ∷ zs) = go z zs

module _ {N A : Type 0} where
  -- a leaf of the whole tree, which is first or last among these
  record EndLeaf (names : List N → Option N) (pairs : List A → Option A) (ns : List N) (xs : List A) (whole : Tree N A) : Type 0 where
    pub name : N
    pub pair : A
    pub name_is : names ns ≡ Some name
    pub pair_is : pairs xs ≡ Some pair
    pub path : List (Frame N A)
    pub whole_is : plug path (leaf name pair) ≡ whole

  first_leaf : (t : Tree N A) → HaveChildren 1 t → (fs : List (Frame N A)) → EndLeaf first_of first_of (leaf_names t) (pairs_of t) (plug fs t)
  first_leaf (leaf n x) full fs = record { name = n; pair = x; name_is = refl; pair_is = refl; path = fs; whole_is = refl }
  first_leaf (inner m h no_child) full fs = let some = full.0 in absurd (omega arith)
  first_leaf (inner m h (child b t cs)) full fs =
      let found = first_leaf t full.1.0 (record { mark = m; header = h; left = no_child; byte = b; right = cs } ∷ fs) in
      record {
        name = found.name;
        pair = found.pair;
        name_is = first_of_front (leaf_names t) (leaf_names_below cs) found.name found.name_is;
        pair_is = first_of_front (pairs_of t) (pairs_below cs) found.pair found.pair_is;
        path = found.path;
        whole_is = found.whole_is;
      }

  mutual
    last_leaf : (t : Tree N A) → HaveChildren 1 t → (fs : List (Frame N A)) → EndLeaf last_of last_of (leaf_names t) (pairs_of t) (plug fs t)
    last_leaf (leaf n x) full fs = record { name = n; pair = x; name_is = refl; pair_is = refl; path = fs; whole_is = refl }
    last_leaf (inner m h cs) full fs = elim (last_leaf_below m h no_child cs full.1 fs) [
      | inl none ↦ let some = subst (λ z. 1 ≤ length (bytes_of z)) none full.0 in absurd (omega arith)
      | inr found ↦ found
    ]

    -- of children with others on their left
    last_leaf_below : (m : N) (h : NodeHeader) (left cs : Subtrees N A) → HaveChildrenBelow 1 cs → (fs : List (Frame N A)) → (cs ≡ no_child) ⊎
        EndLeaf last_of last_of (leaf_names_below cs) (pairs_below cs) (plug fs (inner m h (join left cs)))
    last_leaf_below m h left no_child full fs = inl refl
    last_leaf_below m h left (child b t cs) full fs = elim (last_leaf_below m h (join left (child b t no_child)) cs full.1 fs) [
      | inl none ↦
          let found = last_leaf t full.0 (record { mark = m; header = h; left = left; byte = b; right = cs } ∷ fs) in
          inr (record {
            name = found.name;
            pair = found.pair;
            name_is = ap (λ z. last_of (leaf_names t ++ leaf_names_below z)) none ∙ ap last_of (append-nil (leaf_names t)) ∙ found.name_is;
            pair_is = ap (λ z. last_of (pairs_of t ++ pairs_below z)) none ∙ ap last_of (append-nil (pairs_of t)) ∙ found.pair_is;
            path = found.path;
            whole_is = found.whole_is;
          })
      | inr found ↦ inr (record {
        name = found.name;
        pair = found.pair;
        name_is = last_of_back (leaf_names t) (leaf_names_below cs) found.name found.name_is;
        pair_is = last_of_back (pairs_of t) (pairs_below cs) found.pair found.pair_is;
        path = found.path;
        whole_is = found.whole_is ∙ ap (λ z. plug fs (inner m h z)) (join_assoc left (child b t no_child) cs);
      })
    ]

  -- the first leaf's name determines the leaf
  pub first_is_there : (t : Tree N A) (n : N) → HaveChildren 1 t → first_or (leaf_names t) None ≡ Some n → HasFirstLeaf t n
  first_is_there t n full e =
      let found = first_leaf t full [] in
      let same : found.name ≡ n = let f = sym found.name_is ∙ sym (first_or_of (leaf_names t)) ∙ e in cc in
      subst (HasFirstLeaf t) same (record {
        name_is = found.name_is;
        pair = found.pair;
        pair_is = found.pair_is;
        has = record { path = found.path; whole = found.whole_is };
      })

  -- and so does the last one's
  pub last_is_there : (t : Tree N A) (n : N) → HaveChildren 1 t → last_or (leaf_names t) None ≡ Some n → HasLastLeaf t n
  last_is_there t n full e =
      let found = last_leaf t full [] in
      let same : found.name ≡ n = let f = sym found.name_is ∙ sym (last_or_of (leaf_names t)) ∙ e in cc in
      subst (HasLastLeaf t) same (record {
        name_is = found.name_is;
        pair = found.pair;
        pair_is = found.pair_is;
        has = record { path = found.path; whole = found.whole_is };
      })
