-- Puts of pairs into a map's tree.
use Rattle.std.proofs.Common.{◌≡◌, ℕ, ◌+◌, ◌-◌, ◌≤◌, List, [], ◌∷◌, length, not, refl, ap, ap₂, sym, ◌∙◌, subst, arith, Bool, Option, Some, None, true, false, is_some, zero, suc, option_map}
use Rattle.std.proofs.lemmas.Bool.{true≢false}
use Rattle.std.specs.List.{cons_option}
use Rattle.std.proofs.lemmas.List.{length-map}
use Rattle.std.proofs.lemmas.List.Filters.{length-filter_both}
use Rattle.art_model.specs.Prelude.{leaf_name, Nodes, LeafNode, LeafPtr, OpaqueNodePtr, IsCanonicalTree, IsCanonical, IsIn, ChangesInPlace, KeepsOthers, names_in, are_related, names_of, IsMap, first_of, of_key, has_key, overwrite, overwrite_reply, put, put_reply, related_to, with_key, is_conflict, IsCanonicalRoot, IsRootOf, ForTree, content_at, pair_of, Tree, leaf}
use Rattle.art_model.specs.MapLaws.{Tells}
use Rattle.art_model.proofs.pairs.MapLaws.{overwrite_counts, overwrite_of_key_is_put, overwrite_tells, put_counts, put_tells}
use Rattle.art_model.proofs.pairs.Puts.{has_is_stored}
use Rattle.art_writing.specs.Inserted.{unlinked_leaf}
use Rattle.art_writing.specs.ParentWrites.{IsPlanted}
use Rattle.art_writing.specs.declared.insert.PrefixInsertResult.{PrefixInsertResult}
use Rattle.art_writing.proofs.OneLeaf as one_leaf
use Rattle.art_writing.proofs.Standing.{tree_stays}
use Rattle.art_changing.specs.PairChanges.{gone_count}
use Rattle.art_changing.specs.MapPairs.{HoldsPairs, pairs_at}
use Rattle.art_changing.proofs.ViewsOfPairs.{none_other}

module _ {K V : Type 0} (bytes : K × V → List ℕ) (P : ℕ) where
  -- The pairs have a tree, and the store has no names but the tree's.
  pub record HasTreeAt (s : Nodes K V) (root : OpaqueNodePtr) (len : ℕ) (pairs : List (K × V)) : Type 0 where
    pub layout : Tree OpaqueNodePtr (K × V)
    pub by : IsCanonicalTree bytes P s root pairs layout
    pub no_other : (name : OpaqueNodePtr) → (IsIn name (names_of layout) → ⊥) → content_at s name ≡ None
    pub len_is : len ≡ length pairs

  -- the same for a root that exists
  pub at_root : {s : Nodes K V} {name : OpaqueNodePtr} {len : ℕ} {pairs : List (K × V)} → HoldsPairs bytes P s (Some name) len pairs →
      HasTreeAt s name len pairs
  at_root {s} {name} {len} {pairs} is = go is.tree is.canonical is.no_other
    where
      go : (tree : Option (Tree OpaqueNodePtr (K × V))) → IsRootOf bytes P s (Some name) pairs tree →
          ((k : OpaqueNodePtr) → (IsIn k (names_in tree) → ⊥) → content_at s k ≡ None) →
          HasTreeAt s name len pairs
      go None h other = absurd h
      go (Some layout) h other = record { layout = layout; by = h; no_other = other; len_is = is.len_is }

  module _ (s t : Nodes K V) (same_leaves : t.leaves ≡ s.leaves) (same_inners : t.inners ≡ s.inners) where
    same_held : (k : OpaqueNodePtr) → content_at t k ≡ content_at s k
    same_held k = ap₂ (λ leaves inners. content_at (record t { leaves = leaves; inners = inners }) k) same_leaves same_inners

    -- the same nodes stand for the same pairs
    pub stays : {root : Option OpaqueNodePtr} {len : ℕ} {pairs : List (K × V)} → HoldsPairs bytes P s root len pairs → HoldsPairs bytes P t root len pairs
    stays {root} {len} {pairs} is =
        record {
          tree = is.tree;
          canonical = go root is.tree is.canonical;
          no_other = λ name out. same_held name ∙ is.no_other name out;
          len_is = is.len_is;
        }
      where
        go : (root : Option OpaqueNodePtr) (tree : Option (Tree OpaqueNodePtr (K × V))) → IsRootOf bytes P s root pairs tree →
            IsRootOf bytes P t root pairs tree
        go None None h = h
        go None (Some l) h = absurd h
        go (Some r) None h = absurd h
        go (Some r) (Some l) h = tree_stays (same_leaves, same_inners) h

  -- what a change of the tree leaves
  pub left_holds : {s t : Nodes K V} {name root : OpaqueNodePtr} {len more : ℕ} {pairs left : List (K × V)}
      (has : HasTreeAt s name len pairs) → IsCanonical bytes P t (Some root) left →
      ((others : List (K × V)) (tree : Tree OpaqueNodePtr (K × V)) → IsCanonicalTree bytes P t root others tree →
      ChangesInPlace bytes s t (Some has.layout) (Some tree)) → more ≡ length left →
      HoldsPairs bytes P t (Some root) more left
  left_holds {left = left} has is kept counted = record {
    tree = Some is.0;
    canonical = is.1;
    no_other = none_other (kept left is.0 is.1).others has.no_other;
    len_is = counted;
  }

  -- nothing is left of a freed tree
  pub emptied : {s t : Nodes K V} {name : OpaqueNodePtr} {len : ℕ} {pairs : List (K × V)} (has : HasTreeAt s name len pairs) →
      KeepsOthers s t (names_of has.layout) [] → HoldsPairs bytes P t None 0 []
  emptied has freed = record { tree = None; canonical = refl; no_other = none_other freed has.no_other; len_is = refl }

module _ {K V : Type 0} {bytes : K × V → List ℕ} {P : ℕ} where
  -- the same for a root that is known to exist
  pub at_some : {s : Nodes K V} {root : Option OpaqueNodePtr} {name : OpaqueNodePtr} {len : ℕ} {pairs : List (K × V)} → root ≡ Some name →
      HoldsPairs bytes P s root len pairs →
      HasTreeAt bytes P s name len pairs
  at_some {s} {len = len} {pairs = pairs} e is = at_root bytes P (subst (λ r. HoldsPairs bytes P s r len pairs) e is)

  -- the pairs are held at the root's name
  pub held_there : {s : Nodes K V} {root : Option OpaqueNodePtr} {name : OpaqueNodePtr} {len : ℕ} → root ≡ Some name →
      HoldsPairs bytes P s root len (pairs_at s root) → HoldsPairs bytes P s (Some name) len (pairs_at s (Some name))
  held_there {s} {len = len} e is = subst (λ r. HoldsPairs bytes P s r len (pairs_at s r)) e is

  -- the name of an existing root is canonical
  pub canonical_root : {s : Nodes K V} {root : Option OpaqueNodePtr} {name : OpaqueNodePtr} {len : ℕ} {pairs : List (K × V)} →
      root ≡ Some name → HoldsPairs bytes P s root len pairs →
      IsCanonicalRoot bytes P s name
  canonical_root {pairs = pairs} e is = let has = at_some e is in (pairs, has.layout, has.by)

module _ {K V : Type 0} (bytes : K → List ℕ) (new : K × V) (pairs : List (K × V)) (rising : IsMap (of_key bytes) pairs) where
  -- as many pairs have the key as are returned
  with_key_told : length (with_key (of_key bytes) (bytes new.0) pairs) ≡ length (cons_option (put_reply (of_key bytes) new pairs) [])
  with_key_told = sym (length-map (with_key (of_key bytes) (bytes new.0) pairs) (λ old. (new.0, old.1))) ∙ ap length (put_tells bytes new pairs rising)

  -- if none is returned, there is one pair more
  pub one_more : put_reply (of_key bytes) new pairs ≡ None → length (put (of_key bytes) new pairs) ≡ length pairs + 1
  one_more none =
      let counts = put_counts bytes new pairs in
      let empty : length (with_key (of_key bytes) (bytes new.0) pairs) ≡ 0 = with_key_told ∙ ap (λ o. length (cons_option o [])) none in
      omega arith

  -- and if one is, there are as many
  pub as_many : (x : K × V) → put_reply (of_key bytes) new pairs ≡ Some x → length (put (of_key bytes) new pairs) ≡ length pairs
  as_many x some =
      let counts = put_counts bytes new pairs in
      let one : length (with_key (of_key bytes) (bytes new.0) pairs) ≡ 1 = with_key_told ∙ ap (λ o. length (cons_option o [])) some in
      omega arith

-- what is made of an item exists exactly where the item does
pub is_some-map : {A B : Type 0} (f : A → B) (o : Option A) → is_some (option_map f o) ≡ is_some o
is_some-map f None = refl
is_some-map f (Some x) = refl

module _ {K V : Type 0} (bytes : K → List ℕ) (new : K × V) (pairs : List (K × V)) (rising : IsMap (of_key bytes) pairs) where
  abbrev Related : List (K × V)
  Related = related_to (of_key bytes) (bytes new.0) pairs

  -- one pair is inserted, and those with related keys are removed
  over_counts : length (overwrite (of_key bytes) new pairs) + length Related ≡ length pairs + 1
  over_counts = overwrite_counts bytes new pairs rising

  -- and these are at most all
  fewer_related : length Related ≤ length pairs
  fewer_related =
      let whole = length-filter_both (λ x. not (are_related (bytes new.0) (bytes x.0))) (λ x. are_related (bytes new.0) (bytes x.0))
      (λ x. double (are_related (bytes new.0) (bytes x.0))) pairs in
      omega arith
    where
      double : (b : Bool) → b ≡ not (not b)
      double true = refl
      double false = refl

  -- the number that an overwrite returns is that of the pairs with related keys
  told_gone : (done : PrefixInsertResult K V) → done.insert_result.existing_leaf ≡ option_map unlinked_leaf (overwrite_reply (of_key bytes) new pairs).0 →
      done.leafs_removed ≡ (overwrite_reply (of_key bytes) new pairs).1 → gone_count done ≡ length Related
  told_gone done existing removed = go (has_key (of_key bytes) (bytes new.0) pairs) refl
    where
      count : Option (K × V) × ℕ → ℕ
      count reply = elim reply.0 [ None ↦ reply.1 | Some x ↦ 1 ]

      told : gone_count done ≡ count (overwrite_reply (of_key bytes) new pairs)
      told = ap₂ (λ (o : Option (LeafNode K V)) (n : ℕ). let r : ℕ = elim o [ None ↦ n | Some x ↦ 1 ] in r) existing removed
          ∙ alike (overwrite_reply (of_key bytes) new pairs)
        where
          alike : (reply : Option (K × V) × ℕ) → (let r : ℕ = elim (option_map unlinked_leaf reply.0) [ None ↦ reply.1 | Some x ↦ 1 ] in r) ≡ count reply
          alike (None, n) = refl
          alike (Some x, n) = refl

      counted : (reply : Option (K × V) × ℕ) (gone : List (K × V)) → Tells reply gone → count reply ≡ length gone
      counted (None, zero) gone h = sym (ap length h)
      counted (Some x, zero) gone h = sym (ap length h)
      counted (None, suc n) gone h = sym h.0
      counted (Some x, suc n) gone h = absurd h

      stored : (o : Option (K × V)) → put_reply (of_key bytes) new pairs ≡ o → has_key (of_key bytes) (bytes new.0) pairs ≡ true → count (o, 0) ≡ length Related
      stored None e has =
          absurd (true≢false (sym has ∙ has_is_stored (of_key bytes) new pairs
          ∙ sym (is_some-map (λ old. (new.0, old.1)) (first_of (with_key (of_key bytes) (bytes new.0) pairs))) ∙ ap is_some e))
      stored (Some x) e has =
          let more = over_counts in
          let many = as_many bytes new pairs rising x e in
          let same : length (overwrite (of_key bytes) new pairs) ≡ length (put (of_key bytes) new pairs) =
          ap length (overwrite_of_key_is_put bytes new pairs has).0 in
          omega arith

      go : (b : Bool) → has_key (of_key bytes) (bytes new.0) pairs ≡ b → gone_count done ≡ length Related
      go false e = told ∙ counted (overwrite_reply (of_key bytes) new pairs) Related (overwrite_tells bytes new pairs e)
      go true e = told ∙ ap count (overwrite_of_key_is_put bytes new pairs e).1 ∙ stored (put_reply (of_key bytes) new pairs) refl e

-- the pair of a leaf alone
none_back : {K V : Type 0} (reply : Option (K × V)) → option_map unlinked_leaf reply ≡ None → reply ≡ None
none_back None e = refl
none_back (Some x) e = absurd cc

some_back : {K V : Type 0} (reply : Option (K × V)) (node : LeafNode K V) → option_map unlinked_leaf reply ≡ Some node → reply ≡ Some (pair_of node)
some_back None node e = absurd cc
some_back (Some x) node e = let same : unlinked_leaf x ≡ node = cc in ap (λ l. Some (pair_of l)) same

-- How many pairs a new one replaced, and how many there are with it.
pub record CountsOver {K V : Type 0} (bytes : K → List ℕ) (new : K × V) (pairs : List (K × V)) (gone len : ℕ) : Type 0 where
  pub gone_is : gone ≡ length (related_to (of_key bytes) (bytes new.0) pairs)
  pub fits : gone ≤ len
  pub counted : length (overwrite (of_key bytes) new pairs) ≡ len - gone + 1

module _ {K V : Type 0} (bytes : K → List ℕ) (P : ℕ) {s : Nodes K V} {name : OpaqueNodePtr} {len : ℕ} {pairs : List (K × V)} (new : K × V)
    (has : HasTreeAt (of_key bytes) P s name len pairs) where
  module _ {existing : Option (LeafNode K V)}
      (told : ForTree (of_key bytes) P s name (λ pairs layout. existing
      ≡ option_map unlinked_leaf (put_reply (of_key bytes) new pairs))) where
    -- if no leaf is returned, there is one pair more than the length said
    pub pair_more : existing ≡ None → (put_reply (of_key bytes) new pairs ≡ None) × (length (put (of_key bytes) new pairs) ≡ len + 1)
    pair_more none =
        let reply = none_back (put_reply (of_key bytes) new pairs) (sym (told pairs has.layout has.by) ∙ none) in
        (reply, one_more bytes new pairs has.by.is_map reply ∙ ap (λ n. n + 1) (sym has.len_is))

    -- and if one is, there are as many
    pub same_many : {node : LeafNode K V} → existing ≡ Some node →
        (put_reply (of_key bytes) new pairs ≡ Some (pair_of node)) × (length (put (of_key bytes) new pairs) ≡ len)
    same_many {node} some =
        let reply = some_back (put_reply (of_key bytes) new pairs) node (sym (told pairs has.layout has.by) ∙ some) in
        (reply, as_many bytes new pairs has.by.is_map (pair_of node) reply ∙ sym has.len_is)

  -- if the search from the root found a point for the key, there is no conflict
  pub accepted : {root : OpaqueNodePtr} {key : List ℕ} → name ≡ root → key ≡ bytes new.0 →
      ForTree (of_key bytes) P s root (λ pairs layout. is_conflict (of_key bytes) key pairs ≡ false) →
      is_conflict (of_key bytes) (bytes new.0) pairs ≡ false
  accepted e same free =
      subst (λ key. is_conflict (of_key bytes) key pairs ≡ false) same
      (free pairs has.layout (subst (λ n. IsCanonicalTree (of_key bytes) P s n pairs has.layout) e has.by))

  -- what an overwrite reports of the replaced pairs
  pub over_counted : (done : PrefixInsertResult K V) →
      ForTree (of_key bytes) P s name (λ pairs layout. done.insert_result.existing_leaf
      ≡ option_map unlinked_leaf (overwrite_reply (of_key bytes) new pairs).0) →
      ForTree (of_key bytes) P s name (λ pairs layout. done.leafs_removed ≡ (overwrite_reply (of_key bytes) new pairs).1) →
      CountsOver bytes new pairs (gone_count done) len
  over_counted done existing removed =
      let told = told_gone bytes new pairs has.by.is_map done (existing pairs has.layout has.by) (removed pairs has.layout has.by) in
      let fewer = fewer_related bytes new pairs has.by.is_map in
      let counts = over_counts bytes new pairs has.by.is_map in
      let all = has.len_is in
      record { gone_is = told; fits = omega arith; counted = omega arith }

module _ {K V : Type 0} (bytes : K → List ℕ) (P : ℕ) {s t : Nodes K V} where
  -- a leaf that is placed where there was no tree
  pub planted : {len : ℕ} {pairs : List (K × V)} {n : LeafPtr} {k : K} {v : V} → HoldsPairs (of_key bytes) P s None len pairs → IsPlanted s t n (k, v) →
      HoldsPairs (of_key bytes) P t (Some (leaf_name n)) 1 ((k, v) ∷ [])
  planted {len} {pairs} {n} {k} {v} is at = go is.tree is.canonical is.no_other
    where
      go : (tree : Option (Tree OpaqueNodePtr (K × V))) → IsRootOf (of_key bytes) P s None pairs tree →
          ((name : OpaqueNodePtr) → (IsIn name (names_in tree) → ⊥) → content_at s name ≡ None) →
          HoldsPairs (of_key bytes) P t (Some (leaf_name n)) 1 ((k, v) ∷ [])
      go (Some l) none other = absurd none
      go None none other = record {
        tree = Some (leaf (leaf_name n) (k, v));
        canonical = one_leaf.planted bytes P at;
        no_other = none_other (one_leaf.in_place bytes P at).others other;
        len_is = refl;
      }
