-- The ends of a segment, and what is left when one of them was returned.
use Rattle.std.proofs.Common.{◌≡◌, ◌≢◌, List, [], ◌∷◌, Option, Some, None, IsSome, eqb, true, false, refl, ap, sym, ◌∙◌, subst, inl, inr, option_map, option_and_then}
use Rattle.std.specs.FinMap as map
use Rattle.std.proofs.lemmas.Bool.{eqb-true, eq-eqb, true≢false}
use Rattle.art_model.specs.Prelude.{leaf_name, Nodes, LeafPtr, LeafNode, OpaqueNodePtr, Links, AreLinked, first_or, last_or, IsIn, IsSegment, first_of, last_of, without_last, held_leaf, links_of, links_at}
use Rattle.art_model.proofs.leaves.Links.{link_of}
use Rattle.art_model.proofs.lists.Lists.{each_from, each_in}
use Rattle.art_model.proofs.lists.Pairwises.{Pairwise-in}
use Rattle.art_model.proofs.leaves.Segments.{but_last, last_of_in, empty_segment, segment-frame, segment_rest, segment_front, tree_segment}
use Rattle.art_reading.specs.declared.lookup.descent.End.{End}
use Rattle.art_reading.specs.declared.lookup.descent.End.TheVariants.{First, Last}
use Rattle.art_reading.specs.Iterators.{GoesOn, IsIteratorOf, TakesEnd, WalksWhole}
use Rattle.art_reading.specs.Descents.{of_two}

module _ {K V : Type 0} where
  -- a leaf with links is in the store, and names these leaves
  pub linked_leaf : (o : Option (LeafNode K V)) (l : Links OpaqueNodePtr) → option_and_then links_of (option_map held_leaf o) ≡ Some l →
      (leaf : LeafNode K V) × (o ≡ Some leaf) × (option_map leaf_name leaf.previous ≡ l.previous) × (option_map leaf_name leaf.next ≡ l.next)
  linked_leaf None l e = absurd cc
  linked_leaf (Some leaf) l e =
      let same : record { previous = option_map leaf_name leaf.previous; next = option_map leaf_name leaf.next } ≡ l = cc in
      (leaf, refl, ap (λ z. z.previous) same, ap (λ z. z.next) same)

-- one leaf's name
one_leaf : (p q : LeafPtr) → leaf_name p ≡ leaf_name q → p ≡ q
one_leaf p q e = ap (λ n. let r : LeafPtr = record { slot = n.slot } in r) e

-- the name of a leaf, where there is one
named : (o : Option LeafPtr) (n : OpaqueNodePtr) → option_map leaf_name o ≡ Some n → (p : LeafPtr) × (o ≡ Some p) × (leaf_name p ≡ n)
named None n e = absurd cc
named (Some p) n e = (p, refl, cc)

-- names with one slot are one
same_slot : (p q : LeafPtr) → eqb p.slot q.slot ≡ true → p ≡ q
same_slot p q e = ap (λ n. let r : LeafPtr = record { slot = n } in r) (eqb-true p.slot q.slot e)

other_slot : (p q : LeafPtr) → eqb p.slot q.slot ≡ false → p ≢ q
other_slot p q e same = true≢false (sym (eq-eqb p.slot q.slot (ap (λ z. z.slot) same)) ∙ e)

module _ {N : Type 0} where
  -- a list with a first element has a last one
  last_or-some : (xs : List N) (x : N) → (q : N) × (last_or xs (Some x) ≡ Some q)
  last_or-some [] x = (x, refl)
  last_or-some (y ∷ ys) x = last_or-some ys y

  last_of-or : (xs : List N) (x : N) → last_of (x ∷ xs) ≡ last_or xs (Some x)
  last_of-or [] x = refl
  last_of-or (y ∷ ys) x = last_of-or ys y

module _ {K V : Type 0} {s : Nodes K V} where
  pub empty_iterator : IsIteratorOf s None []
  empty_iterator = record { ends = refl; segment = empty_segment }

module _ {K V : Type 0} where
  -- what is left of an iteration is in every store in which its links are unchanged
  pub goes_on : GoesOn K V
  goes_on s t iterator names is same =
      record {
        ends = is.ends;
        segment = segment-frame (links_at t) names
            (each_from (λ n. links_at t n ≡ links_at s n) names same) is.segment;
      }

  -- the leaves of a canonical root, from the first to the last
  pub walks_whole : WalksWhole K V
  walks_whole bytes P s root pairs layout first last is begins ends =
      record { ends = (begins.name_is, ends.name_is); segment = tree_segment layout is.stands.0.distinct is.linked }

module _ {K V : Type 0} (s : Nodes K V) where
  -- a leaf that is linked is in the store
  pub there_in : (names : List OpaqueNodePtr) (before after : Option OpaqueNodePtr) (p : LeafPtr) →
      AreLinked (links_at s) before names after → IsIn (leaf_name p) names → IsSome (map.get s.leaves p)
  there_in [] before after p linked i = absurd i
  there_in (x ∷ xs) before after p linked (inl e) =
      let found =
      linked_leaf (map.get s.leaves p) (record { previous = before; next = first_or xs after })
      (subst (λ n. links_at s n ≡ Some (record { previous = before; next = first_or xs after })) e linked.0) in
      rw found.1 refl
  there_in (x ∷ xs) before after p linked (inr i) = there_in xs (Some x) after p linked.1 i

  module _ {iterator : Option (LeafPtr × LeafPtr)} (names : List OpaqueNodePtr) (p : LeafPtr) (is : IsIteratorOf s iterator names) where
    -- the first leaf that is left is in the store
    pub end_there : Some (leaf_name p) ≡ first_of names → IsSome (map.get s.leaves p)
    end_there e = there_in names is.segment.before is.segment.after p is.segment.linked (front names e)
      where
        front : (xs : List OpaqueNodePtr) → Some (leaf_name p) ≡ first_of xs → IsIn (leaf_name p) xs
        front [] e = absurd cc
        front (x ∷ xs) e = inl cc

    -- and so is the last one
    last_there : Some (leaf_name p) ≡ last_of names → IsSome (map.get s.leaves p)
    last_there e = there_in names is.segment.before is.segment.after p is.segment.linked (last_of_in names (leaf_name p) (sym e))

module _ {K V : Type 0} (s : Nodes K V) (a b : LeafPtr) where
  -- the first and the last leaf are one
  one_left : (names : List OpaqueNodePtr) → a ≡ b → IsIteratorOf s (Some (a, b)) names → names ≡ leaf_name a ∷ []
  one_left [] same is = absurd (let e = is.ends.0 in cc)
  one_left (x ∷ []) same is = let e = is.ends.0 in ap (λ z. z ∷ []) cc
  one_left (x ∷ y ∷ ys) same is =
      let e = is.ends.0 in
      let f = is.ends.1 in
      let first : x ≡ leaf_name b = let g : leaf_name a ≡ leaf_name b = ap leaf_name same in cc in
      absurd (each_in (λ k. x ≢ k) (leaf_name b) (y ∷ ys) is.segment.distinct.0 (last_of_in (y ∷ ys) (leaf_name b) f) first)

  -- the leaf at an end, and the one next to it
  record HasNext (end : End) (names : List OpaqueNodePtr) : Type 0 where
    pub leaf : LeafNode K V
    pub there : map.get s.leaves (of_two end (a, b)) ≡ Some leaf
    pub next : LeafPtr
    pub next_is : of_two end (leaf.next, leaf.previous) ≡ Some next
    pub other : next ≢ of_two end (a, b)
    pub taken : TakesEnd end s names (Some (of_two end (a, b))) (Some (of_two end ((next, b), (a, next))))

  has_next : (end : End) (names : List OpaqueNodePtr) → a ≢ b → IsIteratorOf s (Some (a, b)) names → HasNext end names
  has_next end [] other is = absurd (let e = is.ends.0 in cc)
  has_next end (x ∷ []) other is = let e = is.ends.0 in let f = is.ends.1 in absurd (other (one_leaf a b cc))
  has_next First (x ∷ y ∷ ys) other is =
      let e = is.ends.0 in
      let first : x ≡ leaf_name a = cc in
      let (leaf, there, previous, next) =
      linked_leaf (map.get s.leaves a) (record { previous = is.segment.before; next = Some y })
      (subst (λ n. links_at s n ≡ Some (record { previous = is.segment.before; next = Some y })) first is.segment.linked.0) in
      let (p, next_is, same) = named leaf.next y next in
      record {
        leaf = leaf;
        there = there;
        next = p;
        next_is = next_is;
        other = λ one. is.segment.distinct.0.0 (first ∙ ap leaf_name (sym one) ∙ same);
        taken = (sym is.ends.0, record { ends = (ap Some (sym same), is.ends.1); segment = segment_rest (x ∷ []) (y ∷ ys) is.segment });
      }
  has_next Last (x ∷ y ∷ ys) other is =
      let all = but_last x (y ∷ ys) (leaf_name b) is.ends.1 in
      let xs = without_last (y ∷ ys) in
      let segment = subst (IsSegment (links_at s)) all is.segment in
      let linked = link_of (links_at s) (x ∷ xs) [] (leaf_name b) segment.before segment.after segment.linked in
      let (leaf, there, previous, next) = linked_leaf (map.get s.leaves b) (record { previous = last_or xs (Some x); next = segment.after }) linked in
      let (q, some) = last_or-some xs x in
      let (p, next_is, same) = named leaf.previous q (previous ∙ some) in
      let front_ends : last_of (x ∷ xs) ≡ Some q = last_of-or xs x ∙ some in
      let apart = Pairwise-in ◌≢◌ (x ∷ xs) (leaf_name b ∷ []) q (leaf_name b) segment.distinct (last_of_in (x ∷ xs) q front_ends) (inl refl) in
      record {
        leaf = leaf;
        there = there;
        next = p;
        next_is = next_is;
        other = λ one. apart (sym same ∙ ap leaf_name one);
        taken = (
          sym is.ends.1,
          record {
            ends = (is.ends.0, front_ends ∙ ap Some (sym same));
            segment = segment_front (x ∷ xs) (leaf_name b ∷ []) segment;
          },
        );
      }

  -- the only leaf is removed from either end
  takes_one : (end : End) (names : List OpaqueNodePtr) → a ≡ b → IsIteratorOf s (Some (a, b)) names → TakesEnd end s names (Some (of_two end (a, b))) None
  takes_one First names same is = subst (λ z. TakesEnd First s z (Some a) None) (sym (one_left names same is)) (refl, empty_iterator)
  takes_one Last names same is =
      subst (λ z. TakesEnd Last s z (Some b) None) (sym (one_left names same is)) (ap (λ z. Some (leaf_name z)) (sym same), empty_iterator)

  -- what the code sees of the leaf at an end
  module _ (end : End) (names : List OpaqueNodePtr) (p : LeafPtr) (at : p ≡ of_two end (a, b)) (is : IsIteratorOf s (Some (a, b)) names) where
    pub only_taken : eqb a.slot b.slot ≡ true → TakesEnd end s names (Some p) None
    only_taken one = subst (λ z. TakesEnd end s names (Some z) None) (sym at) (takes_one end names (same_slot a b one) is)

    -- it is in the store
    pub taken_there : IsSome (map.get s.leaves p)
    taken_there = go end at
      where
        go : (e : End) → p ≡ of_two e (a, b) → IsSome (map.get s.leaves p)
        go First first = end_there s names p is (ap (λ q. Some (leaf_name q)) first ∙ sym is.ends.0)
        go Last last = last_there s names p is (ap (λ q. Some (leaf_name q)) last ∙ sym is.ends.1)

    module _ (other : eqb a.slot b.slot ≡ false) where
      has : HasNext end names
      has = has_next end names (other_slot a b other) is

      same_next : {o : Option LeafPtr} (leaf : LeafNode K V) → Some leaf ≡ map.get s.leaves p → o ≡ of_two end (leaf.next, leaf.previous) → o ≡ Some has.next
      same_next leaf there read =
          let e = has.there in
          let same : leaf ≡ has.leaf = cc in
          read ∙ ap (λ z. of_two end (z.next, z.previous)) same ∙ has.next_is

      pub next_there : {o : Option LeafPtr} (leaf : LeafNode K V) → Some leaf ≡ map.get s.leaves p → o ≡ of_two end (leaf.next, leaf.previous) → IsSome o
      next_there leaf there read = rw (same_next leaf there read) refl

      -- and it is another one
      pub next_other : {o : Option LeafPtr} (leaf : LeafNode K V) (next : LeafPtr) →
          Some leaf ≡ map.get s.leaves p → o ≡ of_two end (leaf.next, leaf.previous) → o ≡ Some next → next ≢ p
      next_other leaf next there read some one =
          let e = same_next leaf there read in
          let same : next ≡ has.next = cc in
          has.other (sym same ∙ one ∙ at)

      pub next_taken : {o : Option LeafPtr} (leaf : LeafNode K V) (next : LeafPtr) {left : LeafPtr × LeafPtr} →
          Some leaf ≡ map.get s.leaves p → o ≡ of_two end (leaf.next, leaf.previous) → o ≡ Some next →
          left ≡ of_two end ((next, b), (a, next)) → TakesEnd end s names (Some p) (Some left)
      next_taken leaf next there read some left_is =
          let e = same_next leaf there read in
          let same : has.next ≡ next = cc in
          rw (at, left_is) (subst (λ z. TakesEnd end s names (Some (of_two end (a, b))) (Some (of_two end ((z, b), (a, z))))) same has.taken)
