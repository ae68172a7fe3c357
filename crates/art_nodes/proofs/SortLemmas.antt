-- The leaves of a row move to other slots, and each node names them by their new names.
use Rattle.std.proofs.Common.{◌≡◌, ◌≢◌, ◌⊎◌, ℕ, ◌+◌, ◌<◌, ◌≤◌, List, [], ◌∷◌, length, get_or, set, Option, Some, None, IsSome, IsSomeAnd, is_some, refl, sym, ap, ◌∙◌, inl, inr, arith, subst, get_or-set_same, get_or-set_other}
use Rattle.std.proofs.lemmas.Option.{same_Some}
use Rattle.std.proofs.lemmas.Bool.{cases_eq}
use Rattle.std.specs.FinMap as map
use Rattle.std.specs.Option.{option_map}
use Rattle.slab.specs.Slab.{Slab, Updates, get, with_value}
use Rattle.slab.proofs.SlabLemmas.{Updates-with_value}
use Rattle.art_inner.specs.InnerRenamed.{inner_renamed}
use Rattle.art_inner.specs.NewNames.{new_name}
use Rattle.art_nodes.specs.Moves.{AreMoved, IsBefore}
use Rattle.art_nodes.specs.Nodes.{Nodes}
use Rattle.art_nodes.specs.Renamed.{AreRenamed, IsRow, leaf_renamed}
use Rattle.art_parts.specs.Lists.{IsIn, first_of}
use Rattle.art_nodes.specs.StoreView.{leaves_of}
use Rattle.art_nodes.proofs.StoreLemmas.{get_leaves_of, is_there, known_of, leaf_under}
use Rattle.art_parts.specs.Names.{leaf_cmp}
use Rattle.art_parts.specs.declared.leaf.LeafNode.{LeafNode}
use Rattle.art_parts.specs.declared.names.InnerPtr.{InnerPtr}
use Rattle.art_parts.specs.declared.names.LeafPtr.{LeafPtr}

-- the values in the slots below one are changed, and the others are what they were
pub record AreChangedBelow {X : Type 0} (f : X → X) (old new : Slab X) (slot : ℕ) : Type 0 where
  pub before : (k : ℕ) → k < slot → get new k ≡ option_map f (get old k)
  pub after : (k : ℕ) → slot ≤ k → get new k ≡ get old k

module _ {X : Type 0} (f : X → X) (old mid : Slab X) (slot : ℕ) (below : AreChangedBelow f old mid slot) where
  goes_on : (new : Slab X) → get new slot ≡ option_map f (get mid slot) → ((k : ℕ) → k ≢ slot → get new k ≡ get mid k) → AreChangedBelow f old new (slot + 1)
  goes_on new here others = record {
    before = λ k h. elim (cases_eq k slot) [
      | inl e ↦ ap (get new) e ∙ here ∙ ap (option_map f) (below.after slot (omega arith)) ∙ ap (λ n. option_map f (get old n)) (sym e)
      | inr n ↦ others k n ∙ below.before k (omega (arith, h, n))
    ];
    after = λ k h. others k (λ e. omega (arith, h, e)) ∙ below.after k (omega (arith, h));
  }

  -- a slot has a value, which is changed
  pub next_changed : (was is : X) → get mid slot ≡ Some was → is ≡ f was → AreChangedBelow f old (with_value mid slot is) (slot + 1)
  next_changed was is there made =
      let updates = Updates-with_value mid slot is (ap is_some there) in
      goes_on _ (updates.changed ∙ ap Some made ∙ ap (option_map f) (sym there)) updates.others

  -- a slot has none
  pub next_vacant : get mid slot ≡ None → AreChangedBelow f old mid (slot + 1)
  next_vacant none = goes_on mid (none ∙ ap (option_map f) (sym none)) (λ k n. refl)

none_some : {X : Type 0} (o : Option X) → IsSome o → o ≡ None → ⊥
none_some None some none = cc
none_some (Some x) some none = cc

same_leaf : (p q : LeafPtr) → p.slot ≡ q.slot → p ≡ q
same_leaf p q e = λ i. record { slot = e i }

-- no name occurs twice in the row
abbrev AreApart : List LeafPtr → Type 0
AreApart [] = Unit {0}
AreApart (name ∷ row) = (IsIn name row → ⊥) × AreApart row

module _ {K V : Type 0} (leaves : map.FinMap leaf_cmp (LeafNode K V)) where
  -- the leaf before one of the row is in the row, or is the one before the row
  previous_in : (first : LeafPtr) (row : List LeafPtr) → IsRow leaves (Some first) row → (name : LeafPtr) → IsIn name row →
      (beside : LeafPtr) × IsIn beside (first ∷ row) × IsSomeAnd (map.get leaves name) (λ leaf. leaf.previous ≡ Some beside)
  previous_in first [] is name i = absurd i
  previous_in first (head ∷ row) is name (inl e) =
      (first, inl refl, subst (λ n. IsSomeAnd (map.get leaves n) (λ leaf. leaf.previous ≡ Some first)) e (first_known _ is.0))
    where
      first_known : (o : Option (LeafNode K V)) → IsSomeAnd o (λ leaf. (leaf.previous ≡ Some first) × (leaf.next ≡ first_of row)) →
          IsSomeAnd o (λ leaf. leaf.previous ≡ Some first)
      first_known None known = known
      first_known (Some leaf) known = known.0
  previous_in first (head ∷ row) is name (inr i) =
      let later = previous_in head row is.1 name i in
      (later.0, inr later.1, later.2)

  -- in a row no name occurs twice: the leaf before it would occur twice too, up to the first
  row_apart : (before : Option LeafPtr) (row : List LeafPtr) → IsRow leaves before row →
      ((beside : LeafPtr) → before ≡ Some beside → IsIn beside row → ⊥) → AreApart row
  row_apart before [] is none = tt
  row_apart before (name ∷ row) is none = (again, row_apart (Some name) row is.1 (λ beside e i. again (subst (λ n. IsIn n row) (sym (same_Some _ _ e)) i)))
    where
      two_previous : (o : Option (LeafNode K V)) (beside : LeafPtr) → IsSomeAnd o (λ leaf. (leaf.previous ≡ before) × (leaf.next ≡ first_of row)) →
          IsSomeAnd o (λ leaf. leaf.previous ≡ Some beside) → before ≡ Some beside
      two_previous None beside known other = absurd known
      two_previous (Some leaf) beside known other = sym known.0 ∙ other

      again : IsIn name row → ⊥
      again i = let (beside, among, previous) = previous_in name row is.1 name i in none beside (two_previous (map.get leaves name) beside is.0 previous) among

  -- each leaf of a row is in the store
  row_there : (before : Option LeafPtr) (row : List LeafPtr) → IsRow leaves before row → (name : LeafPtr) → IsIn name row → IsSome (map.get leaves name)
  row_there before [] is name i = absurd i
  row_there before (head ∷ row) is name (inl e) = subst (λ n. IsSome (map.get leaves n)) e (is_there _ (map.get leaves head) is.0)
  row_there before (head ∷ row) is name (inr i) = row_there (Some head) row is.1 name i

-- Those of the row before its rest have moved, and the next leaf is the first of the rest.
pub record AreMoving {K V : Type 0} (start from to : Slab (LeafNode K V)) (table : List ℕ) (row : List LeafPtr) (next : Option LeafPtr) : Type 0 where
  pub rest : List LeafPtr
  pub before : Option LeafPtr
  pub is_row : IsRow (leaves_of start.slots) before rest
  pub apart : AreApart rest
  pub first : first_of rest ≡ next
  pub within : (name : LeafPtr) → IsIn name rest → IsIn name row
  pub there : (name : LeafPtr) → IsIn name rest → get from name.slot ≡ get start name.slot
  pub moved : AreMoved table row rest start to

-- none has moved yet
pub none_moved : {K V : Type 0} (start to : Slab (LeafNode K V)) (table : List ℕ) (row : List LeafPtr) (next : Option LeafPtr) →
    IsRow (leaves_of start.slots) None row → first_of row ≡ next →
    to.slots ≡ [] → AreMoving start start to table row next
none_moved start to table row next is first empty = record {
  rest = row;
  before = None;
  is_row = is;
  apart = row_apart (leaves_of start.slots) None row is (λ beside e i. none_is e);
  first = first;
  within = λ name i. i;
  there = λ name i. refl;
  moved = record {
    leaves = λ name is_before. absurd (is_before.1 is_before.0);
    distinct = λ name other is_before _ _. absurd (is_before.1 is_before.0);
    no_other = λ slot leaf has. absurd (none_is (sym (ap (λ slots. get_or slots slot None) empty) ∙ has));
  };
}
  where
    none_is : {X : Type 0} {x : X} → None ≡ Some x → ⊥
    none_is e = cc

-- the next leaf moves
module _ {K V : Type 0} (start from left to more : Slab (LeafNode K V)) (table : List ℕ) (row : List LeafPtr) (name : LeafPtr) (key : ℕ) (node : LeafNode K V)
    (is_row : IsRow (leaves_of start.slots) None row) (node_is : get from name.slot ≡ Some node) (gone : Updates from left name.slot None)
    (vacant : get to key ≡ None) (put : Updates to more key (Some node)) (fits : name.slot < length table) where
  abbrev table_now : List ℕ
  table_now = set table name.slot key

  new_here : (new_name table_now name).slot ≡ key
  new_here = get_or-set_same table name.slot key name.slot fits

  new_other : (other : LeafPtr) → other ≢ name → (new_name table_now other).slot ≡ (new_name table other).slot
  new_other other differs = get_or-set_other table name.slot other.slot key other.slot (λ e. differs (same_leaf other name e))

  start_there : (other : LeafPtr) → IsIn other row → IsSome (get start other.slot)
  start_there other i = subst IsSome (get_leaves_of start.slots other) (row_there (leaves_of start.slots) None row is_row other i)

  -- what was moved is not in the slot that is vacant
  slot_differs : (other : LeafPtr) → IsIn other row → get to (new_name table other).slot ≡ get start other.slot → (new_name table other).slot ≢ key
  slot_differs other i has e = none_some _ (start_there other i) (sym has ∙ ap (get to) e ∙ vacant)

  module _ (rest : List LeafPtr) (before : Option LeafPtr) (rest_is : IsRow (leaves_of start.slots) before (name ∷ rest)) (apart : AreApart (name ∷ rest))
      (within : (other : LeafPtr) → IsIn other (name ∷ rest) → IsIn other row)
      (there : (other : LeafPtr) → IsIn other (name ∷ rest) → get from other.slot ≡ get start other.slot)
      (moved : AreMoved table row (name ∷ rest) start to) where
    abbrev Was : LeafPtr → Type 0
    Was = IsBefore row (name ∷ rest)

    -- what has moved is the leaf that moves now, or has moved before
    now_or_was : (other : LeafPtr) → IsBefore row rest other → (other ≡ name) ⊎ Was other
    now_or_was other is_before = elim (cases_eq other.slot name.slot) [
      | inl e ↦ inl (same_leaf other name e)
      | inr n ↦ inr (is_before.0, λ i. elim i [ inl e ↦ n (ap (λ p. p.slot) (sym e)) | inr i ↦ is_before.1 i ])
    ]

    differs : (other : LeafPtr) → Was other → other ≢ name
    differs other was e = was.1 (inl (sym e))

    there_now : (other : LeafPtr) → IsIn other rest → get left other.slot ≡ get start other.slot
    there_now other i = gone.others other.slot (λ e. apart.0 (subst (λ n. IsIn n rest) (same_leaf other name e) i)) ∙ there other (inr i)

    moved_leaf : (other : LeafPtr) → Was other → get more (new_name table_now other).slot ≡ get start other.slot
    moved_leaf other was =
        let has = moved.leaves other was in
        ap (get more) (new_other other (differs other was)) ∙ put.others _ (slot_differs other was.0 has) ∙ has

    key_only : (other : LeafPtr) → Was other → (new_name table_now other).slot ≢ key
    key_only other was e = slot_differs other was.0 (moved.leaves other was) (sym (new_other other (differs other was)) ∙ e)

    moved_now : AreMoved table_now row rest start more
    moved_now = record {
      leaves = λ other is_before. elim (now_or_was other is_before) [
        | inl e ↦ subst (λ n. get more (new_name table_now n).slot ≡ get start n.slot) (sym e)
            (ap (get more) new_here ∙ put.changed ∙ sym node_is ∙ there name (inl refl))
        | inr was ↦ moved_leaf other was
      ];
      distinct = λ one two first second same. by_both one two same (now_or_was one first) (now_or_was two second);
      no_other = λ slot leaf has. elim (cases_eq slot key) [
        | inl e ↦ (name, (within name (inl refl), apart.0), new_here ∙ sym e)
        | inr n ↦
            let found = moved.no_other slot leaf (sym (put.others slot n) ∙ has) in
            (found.0, (found.1.0, λ i. found.1.1 (inr i)), new_other found.0 (differs found.0 found.1) ∙ found.2)
      ];
    }
      where
        by_both : (one two : LeafPtr) → new_name table_now one ≡ new_name table_now two → (one ≡ name) ⊎ Was one → (two ≡ name) ⊎ Was two → one ≡ two
        by_both one two same (inl e) (inl f) = e ∙ sym f
        by_both one two same (inl e) (inr was) = absurd (key_only two was (ap (λ p. p.slot) (sym same) ∙ ap (λ n. (new_name table_now n).slot) e ∙ new_here))
        by_both one two same (inr was) (inl f) = absurd (key_only one was (ap (λ p. p.slot) same ∙ ap (λ n. (new_name table_now n).slot) f ∙ new_here))
        by_both one two same (inr was) (inr is) = moved.distinct one two was is
            (same_leaf _ _ (sym (new_other one (differs one was)) ∙ ap (λ p. p.slot) same ∙ new_other two (differs two is)))

    next_is : first_of rest ≡ node.next
    next_is = sym (known_of _ _ node (get_leaves_of start.slots name ∙ sym (there name (inl refl)) ∙ node_is) rest_is.0).1

    moves_on : AreMoving start left more table_now row node.next
    moves_on = record {
      rest = rest;
      before = Some name;
      is_row = rest_is.1;
      apart = apart.1;
      first = next_is;
      within = λ other i. within other (inr i);
      there = there_now;
      moved = moved_now;
    }

  pub next_moves : AreMoving start from to table row (Some name) → AreMoving start left more table_now row node.next
  next_moves moving = by_rest moving.rest moving.is_row moving.apart moving.first moving.within moving.there moving.moved
    where
      by_rest : (rest : List LeafPtr) → IsRow (leaves_of start.slots) moving.before rest → AreApart rest → first_of rest ≡ Some name →
          ((other : LeafPtr) → IsIn other rest → IsIn other row) →
          ((other : LeafPtr) → IsIn other rest → get from other.slot ≡ get start other.slot) → AreMoved table row rest start to →
          AreMoving start left more table_now row node.next
      by_rest [] is apart first within there moved = absurd cc
      by_rest (head ∷ rest) is apart first within there moved =
          let same : head ≡ name = same_Some _ _ first in
          moves_on rest moving.before (subst (λ n. IsRow (leaves_of start.slots) moving.before (n ∷ rest)) same is)
          (subst (λ n. AreApart (n ∷ rest)) same apart)
          (subst (λ n. (other : LeafPtr) → IsIn other (n ∷ rest) → IsIn other row) same within)
          (subst (λ n. (other : LeafPtr) → IsIn other (n ∷ rest) → get from other.slot ≡ get start other.slot) same there)
          (subst (λ n. AreMoved table row (n ∷ rest) start to) same moved)

-- the next leaf is in the store
pub next_there : {K V : Type 0} (start from to : Slab (LeafNode K V)) (table : List ℕ) (row : List LeafPtr) (name : LeafPtr) →
    AreMoving start from to table row (Some name) →
    IsSome (get from name.slot) × IsSome (get start name.slot)
next_there {K} {V} start from to table row name moving = by_rest moving.rest moving.is_row moving.first moving.there
  where
    by_rest : (rest : List LeafPtr) → IsRow (leaves_of start.slots) moving.before rest → first_of rest ≡ Some name →
        ((other : LeafPtr) → IsIn other rest → get from other.slot ≡ get start other.slot) →
        IsSome (get from name.slot) × IsSome (get start name.slot)
    by_rest [] is first there = absurd cc
    by_rest (head ∷ rest) is first there =
        let same : head ≡ name = same_Some _ _ first in
        let started : IsSome (get start head.slot) =
        subst IsSome (get_leaves_of start.slots head) (row_there (leaves_of start.slots) moving.before (head ∷ rest) is head (inl refl)) in
        subst (λ n. IsSome (get from n.slot) × IsSome (get start n.slot)) same (subst IsSome (sym (there head (inl refl))) started, started)

-- where the leaves of a row have moved, and all nodes name them by their new names, they are renamed
module _ {K V : Type 0} (table : List ℕ) (row : List LeafPtr) (s t : Nodes K V) (start to new : Slab (LeafNode K V))
    (was : leaves_of start.slots ≡ s.leaves) (is : leaves_of new.slots ≡ t.leaves)
    (moved : AreMoved table row [] start to) (links : (slot : ℕ) → get new slot ≡ option_map (leaf_renamed (new_name table)) (get to slot))
    (children : (name : InnerPtr) → map.get t.inners name ≡ option_map (inner_renamed (new_name table)) (map.get s.inners name)) where
  leaf_was : (name : LeafPtr) → map.get s.leaves name ≡ get start name.slot
  leaf_was name = leaf_under start.slots s.leaves name was

  leaf_is : (name : LeafPtr) → map.get t.leaves name ≡ get new name.slot
  leaf_is name = leaf_under new.slots t.leaves name is

  came_from : (o : Option (LeafNode K V)) (leaf : LeafNode K V) → option_map (leaf_renamed (new_name table)) o ≡ Some leaf →
      (there : LeafNode K V) × (o ≡ Some there)
  came_from None leaf has = absurd cc
  came_from (Some there) leaf has = (there, refl)

  pub are_renamed : AreRenamed (new_name table) row s t
  are_renamed = record {
    leaves = λ name i.
        leaf_is (new_name table name)
        ∙ links (new_name table name).slot
        ∙ ap (option_map (leaf_renamed (new_name table))) (moved.leaves name (i, λ none. none) ∙ sym (leaf_was name));
    inners = children;
    distinct = λ name other i j same. moved.distinct name other (i, λ none. none) (j, λ none. none) same;
    no_other = λ name leaf has.
        let there = came_from (get to name.slot) leaf (sym (links name.slot) ∙ sym (leaf_is name) ∙ has) in
        let found = moved.no_other name.slot there.0 there.1 in
        (found.0, found.1.0, same_leaf (new_name table found.0) name found.2);
  }
