-- what the comparison at the last leaf decides
use Rattle.std.proofs.Common.{◌≡◌, ℕ, ◌+◌, ◌≤◌, ◌↔◌, min, List, [], ◌∷◌, ◌++◌, length, drop, refl, subst, ap, sym, ◌∙◌, arith, append_assoc, length-append, Option, Some, None, Bool, true, false, IsTrue}
use Rattle.std.proofs.lemmas.Bool.{false≢true}
use Rattle.std.proofs.lemmas.List.{append_cancel_left}
use Rattle.art_parts.specs.Keys.{IsFront, is_front, are_same}
use Rattle.art_model.specs.Pairs.{match_of, with_key}
use Rattle.art_model.specs.Lookups.{nodes_on_way}
use Rattle.art_model.specs.Roots.{ForTree}
use Rattle.art_model.specs.Stores.{pair_of}
use Rattle.art_model.specs.Trees.{Tree}
use Rattle.art_model.proofs.lists.Lists.{after_front, front_trans}
use Rattle.art_model.proofs.keys.Keys.{front_from, front_is, front_same, same_equal}
use Rattle.art_nodes.specs.Nodes.{Nodes}
use Rattle.art_parts.specs.declared.names.OpaqueNodePtr.{OpaqueNodePtr}
use Rattle.art_reading.specs.declared.lookup.matching.Asked.{Asked}
use Rattle.art_reading.specs.declared.lookup.matching.Asked.TheVariants.{Same, Front}
use Rattle.art_reading.specs.declared.lookup.descent.LastLeaf.{LastLeaf}
use Rattle.art_reading.specs.declared.lookup.matching.PrefixMatchBehavior.{PrefixMatchBehavior}
use Rattle.art_reading.specs.declared.lookup.matching.PrefixMatchBehavior.TheVariants.{Pessimistic, Optimistic}
use Rattle.art_reading.specs.Matching.{compared_from, MatchesLeafKey, LeafKeyIsPrefix}
use Rattle.art_reading.specs.Stored.{ComparesAll}
use Rattle.art_reading.specs.Descents.{CountsVisitsFrom, IsAskedFor, IsLastLeaf, IsOnlyLeaf, WalkEnds, asked_of}

-- both keys have the same bytes before those that are compared
record IsShared (leaf query : List ℕ) (n : ℕ) : Type 0 where
  front : List ℕ
  leaf_is : leaf ≡ front ++ drop n leaf
  query_is : query ≡ front ++ drop n query

shared_front : (behavior : PrefixMatchBehavior) (depth : ℕ) (place leaf query : List ℕ) → length place ≡ depth → depth ≤ length query →
    IsFront place leaf → (behavior ≡ Pessimistic → IsFront place query) → IsShared leaf query (compared_from behavior depth leaf query)
shared_front Optimistic depth place leaf query at short leads compared = record { front = []; leaf_is = refl; query_is = refl }
shared_front Pessimistic depth place leaf query at short leads compared =
    let (r, e) = leads in
    let (q, f) = compared refl in
    let l = ap length e in
    let n : min depth (min (length leaf) (length query)) ≡ length place = omega (arith, simp length-append at l) in
    record {
      front = place;
      leaf_is = e ∙ ap (λ xs. place ++ xs) (sym (after_front place leaf r e) ∙ ap (λ k. drop k leaf) (sym n));
      query_is = f ∙ ap (λ xs. place ++ xs) (sym (after_front place query q f) ∙ ap (λ k. drop k query) (sym n));
    }

module _ {leaf query : List ℕ} {n : ℕ} (s : IsShared leaf query n) where
  whole_same : drop n leaf ≡ drop n query → leaf ≡ query
  whole_same e = s.leaf_is ∙ ap (λ xs. s.front ++ xs) e ∙ sym s.query_is

  whole_front : IsFront (drop n leaf) (drop n query) → IsFront leaf query
  whole_front (r, e) = (r, s.query_is ∙ ap (λ xs. s.front ++ xs) e ∙ sym (append_assoc s.front (drop n leaf) r) ∙ ap (λ xs. xs ++ r) (sym s.leaf_is))

  rest_front : IsFront leaf query → IsFront (drop n leaf) (drop n query)
  rest_front (r, e) = (
    r,
    append_cancel_left s.front (drop n query) (drop n leaf ++ r)
        (sym s.query_is ∙ e ∙ ap (λ xs. xs ++ r) s.leaf_is ∙ append_assoc s.front (drop n leaf) r),
  )

module _ {A : Type 0} (bytes : A → List ℕ) (key : List ℕ) where
  -- an equal key matches
  with_key-match_of : (xs : List A) → with_key bytes key (match_of bytes key xs) ≡ with_key bytes key xs
  with_key-match_of [] = refl
  with_key-match_of (x ∷ xs) = go (with_key-match_of xs) (is_front (bytes x) key) (is_front key (bytes x)) refl refl
    where
      go : with_key bytes key (match_of bytes key xs) ≡ with_key bytes key xs → (t u : Bool) → is_front (bytes x) key ≡ t →
          is_front key (bytes x) ≡ u → with_key bytes key (match_of bytes key (x ∷ xs)) ≡ with_key bytes key (x ∷ xs)
      go ih true true e f = rw (e, f, e) (ap (λ l. x ∷ l) ih)
      go ih true false e f = rw (e, f) ih
      go ih false true e f = rw (e, f) ih
      go ih false false e f = rw (e, f) ih

module _ {K V : Type 0} {bytes : K × V → List ℕ} {P : ℕ} {start : PrefixMatchBehavior} {key : List ℕ} {pairs : List (K × V)}
    {layout : Tree OpaqueNodePtr (K × V)} {before after : ℕ}
    {last : LastLeaf K V} (h : IsLastLeaf bytes P start key pairs layout before after last) where
  shared : IsShared (bytes (pair_of last.leaf.node.now)) key (compared_from last.behavior last.depth (bytes (pair_of last.leaf.node.now)) key)
  shared = shared_front last.behavior last.depth h.place (bytes (pair_of last.leaf.node.now)) key h.depth_is h.is_short h.leads_to h.compared

  only_with_key : with_key bytes key pairs ≡ with_key bytes key (pair_of last.leaf.node.now ∷ [])
  only_with_key = sym (with_key-match_of bytes key pairs) ∙ ap (with_key bytes key) h.only ∙ with_key-match_of bytes key (pair_of last.leaf.node.now ∷ [])

  -- the comparison of a search
  module _ {r : Bool} (test : IsTrue r ↔ MatchesLeafKey last.behavior last.depth (bytes (pair_of last.leaf.node.now)) key) where
    equal : r ≡ true → bytes (pair_of last.leaf.node.now) ≡ key
    equal t = whole_same shared (test.0 t)

    found_equal : r ≡ true → IsOnlyLeaf (with_key bytes key pairs) layout last.leaf
    found_equal t =
        let is : are_same key (bytes (pair_of last.leaf.node.now)) ≡ true = ap (are_same key) (equal t) ∙ front_same key in
        record { only = only_with_key ∙ rw is refl; is_leaf = h.is_leaf; path_is = h.path_is }

    counted_equal : r ≡ true → before + length (nodes_on_way bytes key layout) ≡ after
    counted_equal t = h.exactly (subst (IsFront h.place) (equal t) h.leads_to)

    lost_equal : r ≡ false → with_key bytes key pairs ≡ []
    lost_equal f = only_with_key ∙ go (are_same key (bytes (pair_of last.leaf.node.now))) refl
      where
        go : (t : Bool) → are_same key (bytes (pair_of last.leaf.node.now)) ≡ t → with_key bytes key (pair_of last.leaf.node.now ∷ []) ≡ []
        go true e =
            absurd (false≢true (sym f ∙ test.1
            (ap (λ leaf. drop (compared_from last.behavior last.depth (bytes (pair_of last.leaf.node.now)) key) leaf)
            (same_equal key (bytes (pair_of last.leaf.node.now)) e))))
        go false e = rw e refl

  -- the comparison of a prefix search
  module _ {r : Bool} (test : IsTrue r ↔ LeafKeyIsPrefix last.behavior last.depth (bytes (pair_of last.leaf.node.now)) key) where
    prefix : r ≡ true → IsFront (bytes (pair_of last.leaf.node.now)) key
    prefix t = whole_front shared (test.0 t)

    found_prefix : r ≡ true → IsOnlyLeaf (match_of bytes key pairs) layout last.leaf
    found_prefix t =
        let (rest, e) = prefix t in
        let is : is_front (bytes (pair_of last.leaf.node.now)) key ≡ true =
        ap (is_front (bytes (pair_of last.leaf.node.now))) e ∙ front_is (bytes (pair_of last.leaf.node.now)) rest in
        record { only = h.only ∙ rw is refl; is_leaf = h.is_leaf; path_is = h.path_is }

    counted_prefix : r ≡ true → before + length (nodes_on_way bytes key layout) ≡ after
    counted_prefix t = h.exactly (front_trans h.place (bytes (pair_of last.leaf.node.now)) key h.leads_to (prefix t))

    lost_prefix : r ≡ false → match_of bytes key pairs ≡ []
    lost_prefix f = h.only ∙ go (is_front (bytes (pair_of last.leaf.node.now)) key) refl
      where
        go : (t : Bool) → is_front (bytes (pair_of last.leaf.node.now)) key ≡ t → match_of bytes key (pair_of last.leaf.node.now ∷ []) ≡ []
        go true e = absurd (false≢true (sym f ∙ test.1 (rest_front shared (front_from (bytes (pair_of last.leaf.node.now)) key e))))
        go false e = rw e refl

  -- what the comparison that is asked for decides
  module _ {r : Bool} (asked : Asked) (test : IsTrue r ↔ IsAskedFor asked last.behavior last.depth (bytes (pair_of last.leaf.node.now)) key) where
    pub found : r ≡ true → IsOnlyLeaf (asked_of asked bytes key pairs) layout last.leaf
    found t = go asked test
      where
        go : (a : Asked) → (IsTrue r ↔ IsAskedFor a last.behavior last.depth (bytes (pair_of last.leaf.node.now)) key) →
            IsOnlyLeaf (asked_of a bytes key pairs) layout last.leaf
        go Same is = found_equal is t
        go Front is = found_prefix is t

    pub counted : r ≡ true → before + length (nodes_on_way bytes key layout) ≡ after
    counted t = go asked test
      where
        go : (a : Asked) → (IsTrue r ↔ IsAskedFor a last.behavior last.depth (bytes (pair_of last.leaf.node.now)) key) →
            before + length (nodes_on_way bytes key layout) ≡ after
        go Same is = counted_equal is t
        go Front is = counted_prefix is t

    pub lost : r ≡ false → asked_of asked bytes key pairs ≡ []
    lost f = go asked test
      where
        go : (a : Asked) → (IsTrue r ↔ IsAskedFor a last.behavior last.depth (bytes (pair_of last.leaf.node.now)) key) → asked_of a bytes key pairs ≡ []
        go Same is = lost_equal is f
        go Front is = lost_prefix is f

-- where no key matches, none is asked for
pub none_asked : {A : Type 0} (asked : Asked) (bytes : A → List ℕ) (key : List ℕ) (pairs : List A) → match_of bytes key pairs ≡ [] →
    asked_of asked bytes key pairs ≡ []
none_asked Same bytes key pairs nothing = sym (with_key-match_of bytes key pairs) ∙ ap (with_key bytes key) nothing
none_asked Front bytes key pairs nothing = nothing

-- wherever a path ends, the nodes on it were counted
least : {K V : Type 0} (bytes : K × V → List ℕ) (P : ℕ) (start : PrefixMatchBehavior) (key : List ℕ) (pairs : List (K × V))
    (layout : Tree OpaqueNodePtr (K × V)) (before after : ℕ)
    (end : Option (LastLeaf K V)) → WalkEnds bytes P start key pairs layout before after end → before + length (nodes_on_way bytes key layout) ≤ after
least bytes P start key pairs layout before after None ends = ends.1
least bytes P start key pairs layout before after (Some last) ends = ends.at_least

-- where each prefix is compared whole, exactly these were
just : {K V : Type 0} (bytes : K × V → List ℕ) (P : ℕ) (start : PrefixMatchBehavior) (key : List ℕ) (pairs : List (K × V))
    (layout : Tree OpaqueNodePtr (K × V)) (before after : ℕ)
    (end : Option (LastLeaf K V)) → WalkEnds bytes P start key pairs layout before after end → ComparesAll P start layout →
    before + length (nodes_on_way bytes key layout) ≡ after
just bytes P start key pairs layout before after None ends all = ends.2 all
just bytes P start key pairs layout before after (Some last) ends all = ends.exactly (ends.compared (ends.compares all))

module _ {K V : Type 0} {bytes : K × V → List ℕ} {P : ℕ} {s : Nodes K V} {root : OpaqueNodePtr} {start : PrefixMatchBehavior} {key : List ℕ}
    {before after : ℕ} where
  -- what is counted on a path that ends so
  pub counts : (end : Option (LastLeaf K V)) →
      ForTree bytes P s root (λ pairs layout. WalkEnds bytes P start key pairs layout before after end) → {IsFound : Type 0} →
      ForTree bytes P s root (λ pairs layout. IsFound → before + length (nodes_on_way bytes key layout) ≡ after) → after ≤ before + length key + 1 →
      CountsVisitsFrom start bytes P s root key before after IsFound
  counts end ends exactly at_most = record {
    at_least = λ pairs layout by. least bytes P start key pairs layout before after end (ends pairs layout by);
    exactly = exactly;
    if_whole = λ pairs layout by. just bytes P start key pairs layout before after end (ends pairs layout by);
    at_most = at_most;
  }
