-- Parts of a segment are segments, and the leaves of a tree are one.
use Rattle.std.proofs.Common.{◌≡◌, ◌≢◌, List, [], ◌∷◌, ◌++◌, Option, Some, None, ap, inl, inr}
use Rattle.std.specs.List.{AllByRecursion as Each}
use Rattle.art_model.specs.Prelude.{IsIn, Links, AreDistinct, AreLinked, first_or, last_or, names_of, leaf_names, last_of, without_last, IsSegment, Tree}
use Rattle.art_model.proofs.leaves.Links.{linked-frame, linked_front, linked_rest}
use Rattle.art_model.proofs.stores.Names.{taken_distinct, takes_leaves}
use Rattle.art_model.proofs.lists.Pairwises.{Pairwise-left, Pairwise-right}

module _ {N : Type 0} where
  -- a list but its last element, and that
  pub but_last : (x : N) (xs : List N) (k : N) → last_of (x ∷ xs) ≡ Some k → x ∷ xs ≡ without_last (x ∷ xs) ++ k ∷ []
  but_last x [] k e = ap (λ z. z ∷ []) cc
  but_last x (y ∷ ys) k e = ap (λ z. x ∷ z) (but_last y ys k e)

  -- the last element is one of the list
  pub last_of_in : (xs : List N) (k : N) → last_of xs ≡ Some k → IsIn k xs
  last_of_in [] k e = absurd cc
  last_of_in (x ∷ []) k e = inl cc
  last_of_in (x ∷ y ∷ ys) k e = inr (last_of_in (y ∷ ys) k e)

module _ {N : Type 0} {links : N → Option (Links N)} where
  -- no name
  pub empty_segment : IsSegment links []
  empty_segment = record { distinct = tt; before = None; after = None; linked = tt }

  -- the names after the first ones
  pub segment_rest : (xs ys : List N) → IsSegment links (xs ++ ys) → IsSegment links ys
  segment_rest xs ys is = record {
    distinct = Pairwise-right ◌≢◌ xs ys is.distinct;
    before = last_or xs is.before;
    after = is.after;
    linked = linked_rest links xs ys is.before is.after is.linked;
  }

  -- the first names
  pub segment_front : (xs ys : List N) → IsSegment links (xs ++ ys) → IsSegment links xs
  segment_front xs ys is = record {
    distinct = Pairwise-left ◌≢◌ xs ys is.distinct;
    before = is.before;
    after = first_or ys is.after;
    linked = linked_front links xs ys is.before is.after is.linked;
  }

  -- a segment stays one where its links stay
  pub segment-frame : (to : N → Option (Links N)) (xs : List N) → Each (λ n. to n ≡ links n) xs → IsSegment links xs → IsSegment to xs
  segment-frame to xs same is =
      record {
        distinct = is.distinct;
        before = is.before;
        after = is.after;
        linked = linked-frame links to xs is.before is.after same is.linked;
      }

  -- the leaves of a tree, all of which are linked
  pub tree_segment : {A : Type 0} (t : Tree N A) → AreDistinct (names_of t) → AreLinked links None (leaf_names t) None → IsSegment links (leaf_names t)
  tree_segment t distinct linked = record { distinct = taken_distinct takes_leaves t distinct; before = None; after = None; linked = linked }
