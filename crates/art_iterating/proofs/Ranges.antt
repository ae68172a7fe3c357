-- The pairs of an iterator over at most so many leaves.
use Rattle.std.proofs.Common.{◌≡◌, ℕ, zero, suc, ◌-◌, ◌≤◌, List, [], ◌∷◌, ◌++◌, length, length-append, map as each, filter, refl, ap, sym, ◌∙◌, subst, arith, Option, Some, None, Bool, true, false, cond, ◌&&◌, eqb, eq-eqb, Bor, option_map}
use Rattle.std.specs.List.{AllByRecursion as Each}
use Rattle.std.specs.FinMap as map
use Rattle.std.proofs.lemmas.Bool.{ne_eqb}
use Rattle.art_model.specs.Prelude.{Nodes, leaf_name, LeafNode, LeafPtr, OpaqueNodePtr, IsCanonicalTree, AreDistinct, AreLinked, Holds, HoldsBelow, entries_of, entries_below, first_of, last_of, without_first, without_last, leaves_where, links_at, node_at, pair_of, Tree, leaf, inner, Subtrees, child, no_child}
use Rattle.art_model.specs.Gains.{as_leaf}
use Rattle.art_model.proofs.stores.Canonical.{tree_radix}
use Rattle.art_model.proofs.lists.Lists.{Each-append, each_in}
use Rattle.art_model.proofs.places.Paths.{pairs_of-leaves}
use Rattle.art_model.proofs.leaves.Segments.{empty_segment, last_of_in}
use Rattle.art_model.proofs.stores.Views.{leaf_there}
use Rattle.art_reading.specs.Iterators.{IsIteratorOf, IsWalk, pairs_left}
use Rattle.art_reading.proofs.Iterators.{linked_leaf}
use Rattle.art_reading.proofs.PairsLeft.{leaf_used, named_pairs, one_pair, left_are, left_len, first_left, last_left, less_first, less_last, none_first, none_last}
use Rattle.art_iterating.specs.MapItems.{leaves_to, pairs_between, walk_len, deref_pair, CountsDown, IsRange, TakesFirst, TakesLast}

module _ {K V : Type 0} (s : Nodes K V) (last : LeafPtr) where
  to_last : (p : LeafPtr) (n : ℕ) → eqb p.slot last.slot ≡ true → leaves_to s last (suc n) (Some p) ≡ 1
  unfolding leaves_to
  to_last p n e = rw e refl

  to_next : (p : LeafPtr) (n : ℕ) (node : LeafNode K V) → eqb p.slot last.slot ≡ false → map.get s.leaves p ≡ Some node →
      leaves_to s last (suc n) (Some p) ≡ suc (leaves_to s last n node.next)
  unfolding leaves_to
  to_next p n node e there = rw (e, there) refl

  -- a leaf with this name
  names_leaf : (o : Option LeafPtr) (n : OpaqueNodePtr) → option_map leaf_name o ≡ Some n → (p : LeafPtr) × (o ≡ Some p) × (leaf_name p ≡ n)
  names_leaf None n e = absurd cc
  names_leaf (Some p) n e = (p, refl, cc)

  -- a list of linked leaves is counted up to its last one
  counts : (names : List OpaqueNodePtr) (before after : Option OpaqueNodePtr) (p : LeafPtr) (n : ℕ) →
      AreLinked (links_at s) before names after → AreDistinct names →
      first_of names ≡ Some (leaf_name p) → last_of names ≡ Some (leaf_name last) → length names ≤ n → leaves_to s last n (Some p) ≡ length names
  counts [] before after p n linked distinct first end few = absurd cc
  counts (x ∷ xs) before after p zero linked distinct first end few = absurd (omega arith)
  counts (x ∷ []) before after p (suc n) linked distinct first end few =
      let same : leaf_name p ≡ leaf_name last = cc in
      to_last p n (eq-eqb p.slot last.slot (ap (λ z. z.slot) same))
  counts (x ∷ y ∷ ys) before after p (suc n) linked distinct first end few =
      let is : x ≡ leaf_name p = cc in
      let other : eqb p.slot last.slot ≡ false =
      ne_eqb p.slot last.slot (λ e.
      each_in (λ k. x ≡ k → ⊥) (leaf_name last) (y ∷ ys) distinct.0 (last_of_in (y ∷ ys) (leaf_name last) end)
      (is ∙ ap (λ z. leaf_name (let r : LeafPtr = record { slot = z } in r)) e)) in
      let (node, there, previous, next) =
      linked_leaf (map.get s.leaves p) _ (subst (λ k. links_at s k ≡ Some (record { previous = before; next = Some y })) is linked.0) in
      let (q, next_is, named) = names_leaf node.next y next in
      to_next p n node other there ∙ ap suc (ap (leaves_to s last n) next_is
      ∙ counts (y ∷ ys) (Some x) after q n linked.1 distinct.1 (ap Some (sym named)) end (omega arith))

module _ {K V : Type 0} (s : Nodes K V) where
  -- so the leaves of an iterator are counted
  pub walk_counted : (walk : Option (LeafPtr × LeafPtr)) (names : List OpaqueNodePtr) (n : ℕ) → IsIteratorOf s walk names →
      length names ≤ n → walk_len s walk n ≡ length names
  walk_counted None names n is few = ap length (sym is.ends)
  walk_counted (Some ends) names n is few =
      counts s ends.1 names is.segment.before is.segment.after ends.0 n is.segment.linked is.segment.distinct is.ends.0 is.ends.1 few

  -- and it has the pairs of their names
  pub between_are : (walk : Option (LeafPtr × LeafPtr)) (names : List OpaqueNodePtr) (n : ℕ) → IsIteratorOf s walk names →
      length names ≤ n → pairs_between s walk n ≡ named_pairs s names
  between_are walk names n is few = left_are s walk names (walk_len s walk n) is (walk_counted walk names n is few)

  -- at most as many as the bound says
  pub between_few : (walk : Option (LeafPtr × LeafPtr)) (n : ℕ) → IsRange s walk n → length (pairs_between s walk n) ≤ n
  between_few walk n w =
      let counted = walk_counted walk w.names n w.is w.few in
      let same = left_len s walk (walk_len s walk n) (record { names = w.names; is = w.is; len_is = counted }) in
      let few = w.few in
      omega arith

module _ {K V : Type 0} {s : Nodes K V} {walk left : Option (LeafPtr × LeafPtr)} {n : ℕ} (w : IsRange s walk n) where
  -- if an iterator has no name left, there is no pair
  none_taken : (without : List OpaqueNodePtr → List OpaqueNodePtr) → without [] ≡ [] → IsIteratorOf s left (without w.names) → w.names ≡ [] →
      (pairs_between s walk n ≡ []) × (pairs_between s left n ≡ [])
  none_taken without nothing after none =
      let gone : without w.names ≡ [] = ap without none ∙ nothing in (
        between_are s walk [] n (subst (IsIteratorOf s walk) none w.is) (omega arith),
        between_are s left [] n (subst (IsIteratorOf s left) gone after) (omega arith),
      )

  module _ (after : (names : List OpaqueNodePtr) → IsIteratorOf s walk names → IsIteratorOf s left (without_first names)) where
    pub no_first : ((names : List OpaqueNodePtr) → IsIteratorOf s walk names → None ≡ first_of names) →
        (pairs_between s walk n ≡ []) × (pairs_between s left n ≡ [])
    no_first e = none_taken without_first refl (after w.names w.is) (none_first w.names (e w.names w.is))

    module _ {p : LeafPtr} (e : (names : List OpaqueNodePtr) → IsIteratorOf s walk names → Some (leaf_name p) ≡ first_of names) where
      pub first_taken : {pair : K × V} → option_map pair_of (map.get s.leaves p) ≡ Some pair → pairs_between s walk n ≡ pair ∷ pairs_between s left (n - 1)
      first_taken {pair} read =
          let less = less_first w.names (leaf_name p) (e w.names w.is) in
          let few = w.few in
          between_are s walk w.names n w.is w.few ∙ first_left s w.names p pair (e w.names w.is) read
          ∙ ap (λ xs. pair ∷ xs) (sym (between_are s left (without_first w.names) (n - 1) (after w.names w.is) (omega arith)))

  module _ (after : (names : List OpaqueNodePtr) → IsIteratorOf s walk names → IsIteratorOf s left (without_last names)) where
    pub no_last : ((names : List OpaqueNodePtr) → IsIteratorOf s walk names → None ≡ last_of names) →
        (pairs_between s walk n ≡ []) × (pairs_between s left n ≡ [])
    no_last e = none_taken without_last refl (after w.names w.is) (none_last w.names (e w.names w.is))

    module _ {p : LeafPtr} (e : (names : List OpaqueNodePtr) → IsIteratorOf s walk names → Some (leaf_name p) ≡ last_of names) where
      pub last_left_over : IsRange s left (n - 1)
      last_left_over =
          let less = less_last w.names (leaf_name p) (e w.names w.is) in
          let few = w.few in
          record { names = without_last w.names; is = after w.names w.is; few = omega arith }

      pub last_taken : {pair : K × V} → option_map pair_of (map.get s.leaves p) ≡ Some pair → pairs_between s walk n ≡ pairs_between s left (n - 1) ++ pair ∷ []
      last_taken {pair} read =
          let less = less_last w.names (leaf_name p) (e w.names w.is) in
          let few = w.few in
          between_are s walk w.names n w.is w.few ∙ last_left s w.names p pair (e w.names w.is) read
          ∙ ap (λ xs. xs ++ pair ∷ []) (sym (between_are s left (without_last w.names) (n - 1) (after w.names w.is) (omega arith)))

-- ---- iterators over exactly so many leaves
module _ {K V : Type 0} {s : Nodes K V} {walk : Option (LeafPtr × LeafPtr)} {n : ℕ} where
  -- such an iterator is one over at most so many
  pub walk_range : IsWalk s walk n → IsRange s walk n
  walk_range w = let counted = w.len_is in record { names = w.names; is = w.is; few = omega arith }

  -- with the same pairs
  pub walk_pairs : IsWalk s walk n → pairs_between s walk n ≡ pairs_left s walk n
  walk_pairs w =
      let counted = w.len_is in
      ap (λ k. pairs_left s walk k) (walk_counted s walk w.names n w.is (omega arith) ∙ sym w.len_is)

  -- as many as it has leaves
  pub walk_full : IsWalk s walk n → length (pairs_between s walk n) ≡ n
  walk_full w = ap length (walk_pairs w) ∙ left_len s walk n w

  -- an iterator over at most so many leaves, with as many pairs, is one over exactly so many
  full_walk : IsRange s walk n → length (pairs_between s walk n) ≡ n → IsWalk s walk n
  full_walk w full =
      let counted = walk_counted s walk w.names n w.is w.few in
      record {
        names = w.names;
        is = w.is;
        len_is = sym full ∙ left_len s walk (walk_len s walk n) (record { names = w.names; is = w.is; len_is = counted }) ∙ counted;
      }

module _ {K V : Type 0} {s : Nodes K V} {walk left : Option (LeafPtr × LeafPtr)} {n m : ℕ} (w : IsWalk s walk n) (range : IsRange s left m) where
  -- and it is one after a pair is returned
  pub first_counted : (pair : Option (Bor K × Bor V)) → TakesFirst (pairs_between s walk n) pair (pairs_between s left m) →
      CountsDown n pair m → IsWalk s left m
  first_counted None (none, over) counts = let full = walk_full w in let before = ap length none in let after = ap length over in full_walk range (omega arith)
  first_counted (Some x) takes counts = let full = walk_full w in let lens = ap length takes in full_walk range (omega arith)

  pub last_counted : (pair : Option (Bor K × Bor V)) → TakesLast (pairs_between s walk n) pair (pairs_between s left m) → CountsDown n pair m → IsWalk s left m
  last_counted None (none, over) counts = let full = walk_full w in let before = ap length none in let after = ap length over in full_walk range (omega arith)
  last_counted (Some x) takes counts =
      let full = walk_full w in
      let lens = ap length takes ∙ length-append (pairs_between s left m) (deref_pair x ∷ []) in
      full_walk range (omega arith)

-- ---- the leaves of a tree whose pairs pass a test
module _ {K V : Type 0} (s : Nodes K V) where
  -- the leaf under the name of an entry has its pair
  abbrev Reads : (K × V) × OpaqueNodePtr → Type 0
  Reads e = one_pair s (map.get s.leaves (as_leaf e.1)) ≡ e.0 ∷ []

  mutual
    entries_read : (t : Tree OpaqueNodePtr (K × V)) → Holds (node_at s) t → Each Reads (entries_of t)
    entries_read (leaf n x) h =
        let is_leaf : leaf_name (as_leaf n) ≡ n =
        ap (λ kind. let r : OpaqueNodePtr = record { kind = kind; slot = n.slot } in r) (sym (leaf_used s n.kind n.slot x h).0) in
        let (node, there, pair) = leaf_there s (as_leaf n) x (ap (node_at s) is_leaf ∙ h) in
        (rw there (ap (λ y. y ∷ []) pair), tt)
    entries_read (inner n h cs) holds = entries_read_below cs holds.1

    entries_read_below : (cs : Subtrees OpaqueNodePtr (K × V)) → HoldsBelow (node_at s) cs → Each Reads (entries_below cs)
    entries_read_below no_child h = tt
    entries_read_below (child b t cs) h = Each-append Reads (entries_of t) (entries_below cs) (entries_read t h.0) (entries_read_below cs h.1)

  module _ (test : K × V → Bool) where
    -- the pairs under the names that are left are those that pass
    those_named : (es : List ((K × V) × OpaqueNodePtr)) → Each Reads es →
        named_pairs s (each (λ e. e.1) (filter (λ e. test e.0) es)) ≡ filter test (each (λ e. e.0) es)
    those_named [] h = refl
    those_named (e ∷ es) h = go (those_named es h.1) (test e.0)
      where
        go : named_pairs s (each (λ e. e.1) (filter (λ e. test e.0) es)) ≡ filter test (each (λ e. e.0) es) → (t : Bool) →
            named_pairs s (each (λ e. e.1) (cond t (e ∷ filter (λ e. test e.0) es) (filter (λ e. test e.0) es)))
            ≡ cond t (e.0 ∷ filter test (each (λ e. e.0) es)) (filter test (each (λ e. e.0) es))
        go ih true = rw h.0 (ap (λ xs. e.0 ∷ xs) ih)
        go ih false = ih

    those_few : (es : List ((K × V) × OpaqueNodePtr)) → length (each (λ e. e.1) (filter (λ e. test e.0) es)) ≤ length (each (λ e. e.0) es)
    those_few [] = omega arith
    those_few (e ∷ es) = go (those_few es) (test e.0)
      where
        go : length (each (λ e. e.1) (filter (λ e. test e.0) es)) ≤ length (each (λ e. e.0) es) → (t : Bool) →
            length (each (λ e. e.1) (cond t (e ∷ filter (λ e. test e.0) es) (filter (λ e. test e.0) es))) ≤ suc (length (each (λ e. e.0) es))
        go ih true = omega arith
        go ih false = omega arith

module _ {K V : Type 0} {bytes : K × V → List ℕ} {P : ℕ} {s : Nodes K V} {root : OpaqueNodePtr} {pairs : List (K × V)} {layout : Tree OpaqueNodePtr (K × V)}
    (by : IsCanonicalTree bytes P s root pairs layout) (test : K × V → Bool) {walk : Option (LeafPtr × LeafPtr)}
    (is : IsIteratorOf s walk (leaves_where test layout)) where
  entries_are : each (λ e. e.0) (entries_of layout) ≡ pairs
  entries_are = pairs_of-leaves layout ∙ (tree_radix by).1

  -- these are no more than the pairs
  few_are : {len : ℕ} → len ≡ length pairs → length (leaves_where test layout) ≤ len
  few_are counted = let few = those_few s test (entries_of layout) in let all = ap length entries_are in omega arith

  pub range_there : {len : ℕ} → len ≡ length pairs → IsRange s walk len
  range_there counted = record { names = leaves_where test layout; is = is; few = few_are counted }

  -- and the iterator has the pairs that pass
  pub range_pairs : {len : ℕ} → len ≡ length pairs → pairs_between s walk len ≡ filter test pairs
  range_pairs {len} counted =
      between_are s walk (leaves_where test layout) len is (few_are counted) ∙ those_named s test (entries_of layout) (entries_read s layout by.stands.0.holds)
      ∙ ap (filter test) entries_are

-- an empty iterator has no pairs
pub no_range : {K V : Type 0} (s : Nodes K V) (n : ℕ) → pairs_between s None n ≡ []
no_range s n = left_are s None [] 0 (record { ends = refl; segment = empty_segment }) refl

-- ---- the pair of the first or the last leaf that passes
module _ {K V : Type 0} {bytes : K × V → List ℕ} {P : ℕ} {s : Nodes K V} {root : OpaqueNodePtr} {pairs : List (K × V)} {layout : Tree OpaqueNodePtr (K × V)}
    (by : IsCanonicalTree bytes P s root pairs layout) (test : K × V → Bool) where
  those_are : named_pairs s (leaves_where test layout) ≡ filter test pairs
  those_are =
      those_named s test (entries_of layout) (entries_read s layout by.stands.0.holds) ∙ ap (filter test) (pairs_of-leaves layout ∙ (tree_radix by).1)

  pub no_first_pair : None ≡ first_of (leaves_where test layout) → None ≡ first_of (filter test pairs)
  no_first_pair e = sym (ap first_of (sym those_are ∙ ap (named_pairs s) (none_first (leaves_where test layout) e)))

  pub first_pair : {p : LeafPtr} {pair : K × V} → Some (leaf_name p) ≡ first_of (leaves_where test layout) →
      option_map pair_of (map.get s.leaves p) ≡ Some pair →
      Some pair ≡ first_of (filter test pairs)
  first_pair {p} {pair} e read = sym (ap first_of (sym those_are ∙ first_left s (leaves_where test layout) p pair e read))

  pub no_last_pair : None ≡ last_of (leaves_where test layout) → None ≡ last_of (filter test pairs)
  no_last_pair e = sym (ap last_of (sym those_are ∙ ap (named_pairs s) (none_last (leaves_where test layout) e)))

  pub last_pair : {p : LeafPtr} {pair : K × V} → Some (leaf_name p) ≡ last_of (leaves_where test layout) → option_map pair_of (map.get s.leaves p) ≡ Some pair →
      Some pair ≡ last_of (filter test pairs)
  last_pair {p} {pair} e read =
      sym (ap last_of (sym those_are ∙ last_left s (leaves_where test layout) p pair e read)
      ∙ last_pushed (named_pairs s (without_last (leaves_where test layout))) pair)
    where
      last_pushed : (xs : List (K × V)) (x : K × V) → last_of (xs ++ x ∷ []) ≡ Some x
      last_pushed [] x = refl
      last_pushed (y ∷ []) x = refl
      last_pushed (y ∷ z ∷ xs) x = last_pushed (z ∷ xs) x

-- a test together with one that always holds
pub also_true : (b : Bool) → b ≡ b && true
also_true true = refl
also_true false = refl
