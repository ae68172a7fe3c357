-- A leaf is inserted between two others, or removed: what the map of leaves has under each name then, and which names are touched.
use Rattle.std.proofs.Common.{◌≡◌, ◌≢◌, ℕ, List, [], ◌∷◌, ◌++◌, length, ◌≤◌, arith, Option, Some, None, refl, ap, sym, ◌∙◌, ◌⊎◌, inl, inr, option_map}
use Rattle.std.proofs.lemmas.Bool.{cases_eq}
use Rattle.std.specs.FinMap.{get, insert}
use Rattle.art_model.specs.Prelude.{leaf_name, LeafPtr, OpaqueNodePtr, LeafNode, pair_of, IsThere, Leaves, with_next, with_previous, change_some, with_links_around, with_leaf, without_leaf, IsIn}
use Rattle.art_parts.proofs.NameLemmas.{leaf_cmp_total, leaf_cmp-IsAntisymmetric}
use Rattle.art_nodes.proofs.StoreChanges.{leaf_here, leaf_elsewhere, leaf_gone_elsewhere, leaf_changed_at, leaf_changed_elsewhere}
use Rattle.art_model.proofs.lists.Lists.{in_either}
use Rattle.art_model.proofs.stores.Touches.{Touched, touched_none, then_placed, then_changed, then_freed, still_placed, still_changed}

-- two names of leaves are the same, or not
pub same_leaf : (p q : LeafPtr) → (p ≡ q) ⊎ (p ≢ q)
same_leaf p q = elim (cases_eq p.slot q.slot) [
  | inl e ↦ inl (ap (λ (n : ℕ). let r : LeafPtr = record { slot = n } in r) e)
  | inr n ↦ inr (λ e. n (ap (λ (z : LeafPtr). z.slot) e))
]

-- an optional name is this one, or not
some_leaf : (o : Option LeafPtr) (q : LeafPtr) → (o ≡ Some q) ⊎ (o ≡ Some q → ⊥)
some_leaf None q = inr (λ e. absurd cc)
some_leaf (Some p) q = elim (same_leaf p q) [ inl e ↦ inl (ap Some e) | inr n ↦ inr (λ e. n cc) ]

-- the leaf's name of an optional name
pub named_leaf : (o : Option LeafPtr) (k : OpaqueNodePtr) → option_map leaf_name o ≡ Some k → (p : LeafPtr) × (o ≡ Some p) × (k ≡ leaf_name p)
named_leaf None k e = absurd cc
named_leaf (Some p) k e = (p, refl, cc)

module _ {K V : Type 0} where
  change_some_at : (m : Leaves K V) (o : Option LeafPtr) (f : LeafNode K V → LeafNode K V) (q : LeafPtr) → o ≡ Some q →
      get (change_some m o f) q ≡ option_map f (get m q)
  change_some_at m None f q e = absurd cc
  change_some_at m (Some p) f q e = let s : p ≡ q = cc in ap (λ z. get (change_some m (Some z) f) q) s ∙ leaf_changed_at m q f

  change_some_elsewhere : (m : Leaves K V) (o : Option LeafPtr) (f : LeafNode K V → LeafNode K V) (q : LeafPtr) → (o ≡ Some q → ⊥) →
      get (change_some m o f) q ≡ get m q
  change_some_elsewhere m None f q n = refl
  change_some_elsewhere m (Some p) f q n = leaf_changed_elsewhere m p q f (λ e. n (ap Some (sym e)))

  change_some-cong : (other m : Leaves K V) (o : Option LeafPtr) (f : LeafNode K V → LeafNode K V) (q : LeafPtr) → get other q ≡ get m q →
      get (change_some other o f) q ≡ get (change_some m o f) q
  change_some-cong other m o f q e = elim (some_leaf o q) [
    | inl g ↦ change_some_at other o f q g ∙ ap (option_map f) e ∙ sym (change_some_at m o f q g)
    | inr n ↦ change_some_elsewhere other o f q n ∙ e ∙ sym (change_some_elsewhere m o f q n)
  ]

  -- a change that keeps pairs
  change_some_pair : (m : Leaves K V) (o : Option LeafPtr) (f : LeafNode K V → LeafNode K V) (q : LeafPtr) →
      ((x : LeafNode K V) → pair_of (f x) ≡ pair_of x) → option_map pair_of (get (change_some m o f) q) ≡ option_map pair_of (get m q)
  change_some_pair m o f q keeps = elim (some_leaf o q) [
    | inl e ↦ ap (option_map pair_of) (change_some_at m o f q e) ∙ kept (get m q)
    | inr n ↦ ap (option_map pair_of) (change_some_elsewhere m o f q n)
  ]
    where
      kept : (s : Option (LeafNode K V)) → option_map pair_of (option_map f s) ≡ option_map pair_of s
      kept None = refl
      kept (Some x) = ap Some (keeps x)

  -- ---- the neighbours of a place

  module _ (m : Leaves K V) (before after next previous : Option LeafPtr) where
    -- the leaf before the place
    pub joined_before : (q : LeafPtr) → before ≡ Some q → (after ≡ Some q → ⊥) →
        get (with_links_around m before after next previous) q ≡ option_map (with_next next) (get m q)
    joined_before q e off =
        change_some_elsewhere (change_some m before (with_next next)) after (with_previous previous) q off
        ∙ change_some_at m before (with_next next) q e

    -- the leaf after it
    pub joined_after : (q : LeafPtr) → after ≡ Some q → (before ≡ Some q → ⊥) →
        get (with_links_around m before after next previous) q ≡ option_map (with_previous previous) (get m q)
    joined_after q e off =
        change_some_at (change_some m before (with_next next)) after (with_previous previous) q e
        ∙ ap (option_map (with_previous previous)) (change_some_elsewhere m before (with_next next) q off)

    -- all other leaves
    pub joined_elsewhere : (q : LeafPtr) → (before ≡ Some q → ⊥) → (after ≡ Some q → ⊥) → get (with_links_around m before after next previous) q ≡ get m q
    joined_elsewhere q off non = change_some_elsewhere (change_some m before (with_next next)) after (with_previous previous) q non
        ∙ change_some_elsewhere m before (with_next next) q off

    -- what a name holds afterwards depends on what it held
    with_links_around-cong : (other : Leaves K V) (q : LeafPtr) → get other q ≡ get m q →
        get (with_links_around other before after next previous) q ≡ get (with_links_around m before after next previous) q
    with_links_around-cong other q e =
        change_some-cong (change_some other before (with_next next)) (change_some m before (with_next next)) after
        (with_previous previous) q (change_some-cong other m before (with_next next) q e)

    -- the pairs are unchanged
    pub joined_pair : (q : LeafPtr) → option_map pair_of (get (with_links_around m before after next previous) q) ≡ option_map pair_of (get m q)
    joined_pair q = change_some_pair (change_some m before (with_next next)) after (with_previous previous) q (λ _. refl)
        ∙ change_some_pair m before (with_next next) q (λ _. refl)

  -- ---- an inserted leaf, and a removed leaf

  module _ (m : Leaves K V) (n : LeafPtr) (x : LeafNode K V) where
    -- the new leaf
    pub with_leaf_here : (x.previous ≡ Some n → ⊥) → (x.next ≡ Some n → ⊥) → get (with_leaf m n x) n ≡ Some x
    unfolding with_leaf
    with_leaf_here p q = joined_elsewhere (insert m n x) x.previous x.next (Some n) (Some n) n p q ∙ leaf_here m n x

    -- leaves next to the new one and elsewhere
    pub with_leaf_elsewhere : (q : LeafPtr) → q ≢ n → get (with_leaf m n x) q ≡ get (with_links_around m x.previous x.next (Some n) (Some n)) q
    unfolding with_leaf
    with_leaf_elsewhere q off = with_links_around-cong m x.previous x.next (Some n) (Some n) (insert m n x) q (leaf_elsewhere m n q x off)

    -- pairs of other leaves
    pub with_leaf_pair : (q : LeafPtr) → q ≢ n → option_map pair_of (get (with_leaf m n x) q) ≡ option_map pair_of (get m q)
    unfolding with_leaf
    with_leaf_pair q off = joined_pair (insert m n x) x.previous x.next (Some n) (Some n) q ∙ ap (option_map pair_of) (leaf_elsewhere m n q x off)

    -- leaves next to it and elsewhere
    pub without_leaf_elsewhere : (q : LeafPtr) → q ≢ n → get (without_leaf m n x) q ≡ get (with_links_around m x.previous x.next x.next x.previous) q
    unfolding without_leaf
    without_leaf_elsewhere q off = leaf_gone_elsewhere (with_links_around m x.previous x.next x.next x.previous) n q off

    -- pairs of other leaves
    pub without_leaf_pair : (q : LeafPtr) → q ≢ n → option_map pair_of (get (without_leaf m n x) q) ≡ option_map pair_of (get m q)
    unfolding without_leaf
    without_leaf_pair q off = ap (option_map pair_of)
        (leaf_gone_elsewhere (with_links_around m x.previous x.next x.next x.previous) n q off)
        ∙ joined_pair m x.previous x.next x.next x.previous q

-- ---- what is touched

-- the name, where there is one
abbrev pub listed : Option LeafPtr → List LeafPtr
listed None = []
listed (Some p) = p ∷ []

pub in_listed : (o : Option LeafPtr) (p : LeafPtr) → IsIn p (listed o) → o ≡ Some p
in_listed None p i = absurd i
in_listed (Some q) p (inl e) = ap Some e
in_listed (Some q) p (inr i) = absurd i

-- a place has at most two neighbours
pub length-beside : (next previous : Option LeafPtr) → length (listed next ++ (listed previous ++ [])) ≤ 2
length-beside None None = omega arith
length-beside None (Some p) = omega arith
length-beside (Some n) None = omega arith
length-beside (Some n) (Some p) = omega arith

module _ {K V : Type 0} where
  then_change_some : {old new : Leaves K V} {placed freed changed : List LeafPtr} → Touched old new placed freed changed →
      (o : Option LeafPtr) (f : LeafNode K V → LeafNode K V) → IsThere old o → IsThere new o →
      Touched old (change_some new o f) placed freed (listed o ++ changed)
  then_change_some so_far None f was is = so_far
  then_change_some so_far (Some p) f was is = then_changed leaf_cmp_total leaf_cmp-IsAntisymmetric so_far p f (was p refl) (is p refl)

  pub there_changed : (m : Leaves K V) (o q : Option LeafPtr) (f : LeafNode K V → LeafNode K V) → IsThere m q → IsThere (change_some m o f) q
  there_changed m None q f h = h
  there_changed m (Some n) q f h = λ p e. still_changed leaf_cmp_total leaf_cmp-IsAntisymmetric m n p f (h p e)

  -- the neighbours of a place change
  then_joined : {old new : Leaves K V} {placed freed changed : List LeafPtr} → Touched old new placed freed changed →
      (before after next previous : Option LeafPtr) → IsThere old before → IsThere old after → IsThere new before → IsThere new after →
      Touched old (with_links_around new before after next previous) placed freed (listed after ++ (listed before ++ changed))
  then_joined {new = new} so_far before after next previous was_b was_a is_b is_a =
      then_change_some (then_change_some so_far before (with_next next) was_b is_b) after (with_previous previous) was_a
      (there_changed new before after (with_next next) is_a)

  module _ (m : Leaves K V) (n : LeafPtr) (x : LeafNode K V) (before : IsThere m x.previous) (after : IsThere m x.next) where
    -- an inserted leaf, and at most two that change
    pub touched_with_leaf : get m n ≡ None → Touched m (with_leaf m n x) (n ∷ []) [] (listed x.next ++ (listed x.previous ++ []))
    unfolding with_leaf
    touched_with_leaf free =
        let still =
        λ (o : Option LeafPtr) (h : IsThere m o) (p : LeafPtr)
        (e : o ≡ Some p). still_placed leaf_cmp_total leaf_cmp-IsAntisymmetric m n p x (h p e) in
        then_joined (then_placed leaf_cmp_total leaf_cmp-IsAntisymmetric (touched_none m) n x free (λ i. i)) x.previous x.next (Some n) (Some n)
        before after (still x.previous before) (still x.next after)

    -- a removed leaf, and at most two that change
    pub touched_without_leaf : get m n ≢ None → (x.previous ≡ Some n → ⊥) → (x.next ≡ Some n → ⊥) →
        Touched m (without_leaf m n x) [] (n ∷ []) (listed x.next ++ (listed x.previous ++ []))
    unfolding without_leaf
    touched_without_leaf here not_before not_after =
        then_freed leaf_cmp_total leaf_cmp-IsAntisymmetric (then_joined (touched_none m) x.previous x.next x.next x.previous before after before
        after) n here (λ i. elim (in_either n (listed x.next) (listed x.previous ++ []) i) [
          | inl j ↦ not_after (in_listed x.next n j)
          | inr j ↦ elim (in_either n (listed x.previous) [] j) [ inl k ↦ not_before (in_listed x.previous n k) | inr k ↦ k ]
        ])
