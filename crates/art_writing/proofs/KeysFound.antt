-- What is found under a key in a list of pairs, and in a tree.
use Rattle.std.proofs.Common.{◌≡◌, ℕ, List, [], ◌∷◌, length, map, refl, ap, ap₂, sym, ◌&&◌, ◌||◌, ◌∙◌, subst, Option, Some, None, Bool, true, false, not, IfSome, if◌then◌else◌, is_some}
use Rattle.std.specs.List.{AllByRecursion as Each}
use Rattle.std.proofs.lemmas.Bool.{true≢false}
use Rattle.std.specs.FinMap.{get}
use Rattle.art_model.specs.Prelude.{leaf_name, Nodes, LeafNode, LeafPtr, OpaqueNodePtr, IsCanonicalTree, are_related, are_same, is_front, Precedes, Holds, FindsLeaf, first_of, IsMap, with_key, has_key, is_conflict, of_key, remove_key, remove_reply, below, node_at, pair_of, Tree, leaf}
use Rattle.art_model.proofs.lists.Filters.{none_passes, filter_all, filter_passes}
use Rattle.art_model.proofs.keys.Keys.{related_sym, same_equal}
use Rattle.art_model.proofs.leaves.LeavesFound.{leaf_found}
use Rattle.art_model.proofs.lists.Lists.{Each-weaker}
use Rattle.art_model.proofs.pairs.Puts.{any_is_first, first_none}
use Rattle.art_model.proofs.stores.Stores.{path_holds}
use Rattle.art_model.proofs.stores.Views.{leaf_there}
use Rattle.art_writing.specs.Deleted.{LeadsTo, IsDeletePoint}
use Rattle.art_writing.specs.Inserted.{unlinked_leaf}
use Rattle.art_writing.specs.declared.delete.DeletePoint.{DeletePoint}
use Rattle.art_reading.proofs.Partings.{no_conflict}

nothing_and : (b : Bool) → (b && false) ≡ false
nothing_and true = refl
nothing_and false = refl

module _ {A : Type 0} (bytes : A → List ℕ) (key : List ℕ) where
  -- a lookup finds a leaf exactly where the key is stored
  pub found_stored : (pairs : List A) (tree : Tree OpaqueNodePtr A) (found : Option LeafPtr) →
      FindsLeaf tree (with_key bytes key pairs) found → is_some found ≡ has_key bytes key pairs
  found_stored pairs tree None h = sym (any_is_first (λ x. are_same key (bytes x)) pairs ∙ ap (λ xs. is_some (first_of xs)) h)
  found_stored pairs tree (Some name) (x, only, has) = sym (any_is_first (λ x. are_same key (bytes x)) pairs ∙ ap (λ xs. is_some (first_of xs)) only)

  -- where the key is not stored nothing is removed
  pub removes_none : (pairs : List A) → remove_reply bytes key pairs ≡ None → remove_key bytes key pairs ≡ pairs
  removes_none pairs none = filter_all (λ x. not (are_same key (bytes x))) pairs
      (Each-weaker (λ x. are_same key (bytes x) ≡ false) (λ x. not (are_same key (bytes x)) ≡ true) (λ x e. ap not e) pairs
      (none_passes (λ x. are_same key (bytes x)) pairs (first_none (with_key bytes key pairs) none)))

  -- nothing is removed under a key that is not stored
  new_removes_none : (pairs : List A) → has_key bytes key pairs ≡ false → remove_reply bytes key pairs ≡ None
  new_removes_none pairs new = go (remove_reply bytes key pairs) refl
    where
      go : (reply : Option A) → remove_reply bytes key pairs ≡ reply → reply ≡ None
      go None e = refl
      go (Some x) e = absurd (true≢false (sym (ap is_some e) ∙ sym (any_is_first (λ y. are_same key (bytes y)) pairs) ∙ new))

  -- the pair that is removed has the key
  pub removed_key : (pairs : List A) (x : A) → remove_reply bytes key pairs ≡ Some x → bytes x ≡ key
  removed_key pairs x e = go (with_key bytes key pairs) e (filter_passes (λ y. are_same key (bytes y)) pairs)
    where
      go : (ys : List A) → first_of ys ≡ Some x → Each (λ y. are_same key (bytes y) ≡ true) ys → bytes x ≡ key
      go [] is h = absurd cc
      go (y ∷ ys) is h = let same : y ≡ x = cc in same_equal key (bytes x) (subst (λ q. are_same key (bytes q) ≡ true) same h.0)

  -- what comes before an equal key is not related to it
  before_stored : (x : A) (ys : List A) → Each (λ y. Precedes (bytes x) (bytes y)) ys → has_key bytes key ys ≡ true → are_related key (bytes x) ≡ false
  before_stored x [] h e = absurd cc
  before_stored x (y ∷ ys) h e = by (λ later. before_stored x ys h.1 later) (are_same key (bytes y)) refl
    where
      by : (has_key bytes key ys ≡ true → are_related key (bytes x) ≡ false) → (b : Bool) → are_same key (bytes y) ≡ b → are_related key (bytes x) ≡ false
      by ih true same = related_sym key (bytes x) ∙ subst (λ q. are_related (bytes x) q ≡ false) (same_equal key (bytes y) same) h.0.1
      by ih false other = ih (rw other at e)

  -- a key that a map has never conflicts
  pub stored_free : (pairs : List A) → IsMap bytes pairs → has_key bytes key pairs ≡ true → is_conflict bytes key pairs ≡ false
  stored_free [] rising e = refl
  stored_free (x ∷ xs) rising e = go (λ later. stored_free xs rising.1 later) (are_same key (bytes x)) refl
    where
      go : (has_key bytes key xs ≡ true → is_conflict bytes key xs ≡ false) → (b : Bool) → are_same key (bytes x) ≡ b → is_conflict bytes key (x ∷ xs) ≡ false
      go ih true same =
          let off =
          Each-weaker (λ y. Precedes (bytes x) (bytes y)) (λ y. are_related key (bytes y) ≡ false)
          (λ y p. subst (λ q. are_related q (bytes y) ≡ false) (same_equal key (bytes x) same) p.1) xs rising.0 in
          ap₂ (λ a b. a || b) (ap (λ q. are_related key (bytes x) && not q) same ∙ nothing_and (are_related key (bytes x))) (no_conflict bytes key xs off)
      go ih false other =
          let later : has_key bytes key xs ≡ true = rw other at e in
          rw (before_stored x xs rising.0 later) (ih later)

  -- so a key in conflict is not stored
  pub conflict_new : (pairs : List A) → IsMap bytes pairs → is_conflict bytes key pairs ≡ true → has_key bytes key pairs ≡ false
  conflict_new pairs rising related = go (has_key bytes key pairs) refl
    where
      go : (b : Bool) → has_key bytes key pairs ≡ b → b ≡ false
      go false e = refl
      go true e = absurd (true≢false (sym related ∙ stored_free pairs rising e))

  -- the first pair whose key starts with a key is that key's own, or the key is not stored
  pub first_below : (pairs : List A) (x : A) → IsMap bytes pairs → first_of (below bytes key pairs) ≡ Some x →
      remove_reply bytes key pairs ≡ (if is_front (bytes x) key then Some x else None)
  first_below [] x rising e = absurd cc
  first_below (z ∷ zs) x rising e = go (first_below zs x rising.1) (is_front key (bytes z)) refl e
    where
      later : is_front key (bytes z) ≡ true → remove_reply bytes key zs ≡ None
      later leads = by (has_key bytes key zs) refl
        where
          by : (b : Bool) → has_key bytes key zs ≡ b → remove_reply bytes key zs ≡ None
          by false e = new_removes_none zs e
          by true e = absurd (true≢false (let apart = before_stored z zs rising.0 e in rw leads at apart))

      own : (b : Bool) → is_front (bytes z) key ≡ b → is_front key (bytes z) ≡ true →
          remove_reply bytes key (z ∷ zs) ≡ (if is_front (bytes z) key then Some z else None)
      own true e leads = rw (leads, e) refl
      own false e leads = rw (leads, e) (later leads)

      go : (first_of (below bytes key zs) ≡ Some x → remove_reply bytes key zs ≡ (if is_front (bytes x) key then Some x else None)) →
          (b : Bool) → is_front key (bytes z) ≡ b → first_of (below bytes key (z ∷ zs)) ≡ Some x →
          remove_reply bytes key (z ∷ zs) ≡ (if is_front (bytes x) key then Some x else None)
      go ih true leads e =
          let same : z ≡ x = (let f = rw leads at e in cc) in
          subst (λ y. remove_reply bytes key (z ∷ zs) ≡ (if is_front (bytes y) key then Some y else None)) same (own (is_front (bytes z) key) refl leads)
      go ih false off e = rw off (ih (rw off at e))

  -- where no key starts with it, it is not stored
  pub none_below : (pairs : List A) → first_of (below bytes key pairs) ≡ None → remove_reply bytes key pairs ≡ None
  none_below [] e = refl
  none_below (z ∷ zs) e = go (none_below zs) (is_front key (bytes z)) refl e
    where
      go : (first_of (below bytes key zs) ≡ None → remove_reply bytes key zs ≡ None) → (b : Bool) → is_front key (bytes z) ≡ b →
          first_of (below bytes key (z ∷ zs)) ≡ None → remove_reply bytes key (z ∷ zs) ≡ None
      go ih true leads e = absurd (let f = rw leads at e in cc)
      go ih false off e = rw off (ih (rw off at e))

-- a point is found exactly where there is a pair for it
pub point_none : {A : Type 0} (tree : Tree OpaqueNodePtr A) (pair : Option A) → IsDeletePoint tree pair None → pair ≡ None
point_none tree None h = refl
point_none tree (Some x) h = absurd h

pub point_some : {A : Type 0} (tree : Tree OpaqueNodePtr A) (point : DeletePoint) (pair : Option A) → IsDeletePoint tree pair (Some point) →
    (x : A) × (pair ≡ Some x) × LeadsTo tree x point
point_some tree point None h = absurd h
point_some tree point (Some x) h = (x, refl, h)

module _ {K V : Type 0} (bytes : K → List ℕ) where
  -- the length of a match that is found is that of the leaf's key
  pub match_found : (P : ℕ) {s : Nodes K V} {name : OpaqueNodePtr} {pairs : List (K × V)} {layout : Tree OpaqueNodePtr (K × V)} {p : LeafPtr}
      {node : LeafNode K V} (matches : List (K × V)) → IsCanonicalTree (of_key bytes) P s name pairs layout →
      FindsLeaf layout matches (Some p) → get s.leaves p ≡ Some node →
      length (bytes node.key) ∷ [] ≡ map (λ x. length (bytes x.0)) matches
  match_found P {s} {name} {pairs} {layout} {p} {node} matches by (x, only, has) got =
      let (other, there, its) = leaf_found (of_key bytes) P by has in
      let same : other ≡ node = cc in
      let pair : pair_of node ≡ x = ap pair_of (sym same) ∙ its in
      ap (λ y. length (bytes y.0) ∷ []) pair ∙ sym (ap (map (λ y. length (bytes y.0))) only)

-- the leaf of a delete point has the pair that the point leads to
pub deleted_pair : {K V : Type 0} (bytes : K → List ℕ) (P : ℕ) {s : Nodes K V} {root : OpaqueNodePtr} {pairs : List (K × V)}
    {layout : Tree OpaqueNodePtr (K × V)}
    {x : K × V} {point : DeletePoint} (deleted : LeafNode K V) → IsCanonicalTree (of_key bytes) P s root pairs layout → LeadsTo layout x point →
    IfSome (get s.leaves point.leaf_node_ptr) (λ node. deleted ≡ unlinked_leaf (pair_of node)) → (deleted.key, deleted.value) ≡ x
deleted_pair bytes P {s} {root} {pairs} {layout} {x} {point} deleted by leads told =
    let held = (path_holds (node_at s) leads.path (leaf (leaf_name point.leaf_node_ptr) x) (subst (Holds (node_at s)) (sym leads.whole) by.stands.0.holds)).1 in
    let (node, got, its) = leaf_there s point.leaf_node_ptr x held in
    let same : deleted ≡ unlinked_leaf (pair_of node) = rw got at told in
    ap pair_of same ∙ its

-- what is not false is true
pub not_false : (b : Bool) → (b ≡ false → ⊥) → b ≡ true
not_false true h = refl
not_false false h = absurd (h refl)
