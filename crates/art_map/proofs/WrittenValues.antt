-- A value that is written to the leaf of a key.
use Rattle.std.proofs.Common.{◌≡◌, ℕ, List, [], ◌∷◌, Option, Some, IfSome, IsSome, is_some, refl, ap, sym, ◌∙◌, subst, inl, true, ◌++◌, length, length-append, ◌+◌, option_map}
use Rattle.std.specs.FinMap.{get}
use Rattle.std.proofs.lemmas.List.{length-map}
use Rattle.art_model.specs.Prelude.{leaf_name, LeafNode, LeafPtr, OpaqueNodePtr, with_pair, with_value, with_leaf_value, Nodes, change, ChangesInPlace, are_same, FindsLeaf, first_of, has_key, of_key, replace_key, with_key, pairs_after, pairs_before, plug, pairs_of, ForTree, links_at, node_at, pair_of, leaf}
use Rattle.art_model.proofs.pairs.Between.{IsLocal, replace_key-between}
use Rattle.art_model.proofs.stores.Canonical.{IsLaidOut, canonical_from, laid_out}
use Rattle.art_model.proofs.places.InHole.{with_key-hole}
use Rattle.art_model.proofs.changes.IntoLeaf.{IntoLeaf, leaf_changed, leaf_kept}
pub use Rattle.art_nodes.proofs.StoreChanges.{lends_same}
pub use Rattle.art_model.proofs.lists.Lists.{some_of}
use Rattle.art_model.proofs.keys.Keys.{front_same, same_equal}
use Rattle.art_model.proofs.leaves.LeavesFound.{leaf_found}
use Rattle.art_model.proofs.places.Paths.{IsHole, hole_of, pairs_of-plug}
use Rattle.art_model.proofs.pairs.Puts.{any_is_first}
use Rattle.art_changing.specs.MapAnswers.{value_at, with_value_at}
use Rattle.art_map.specs.MapChanges.{NamesLeafOf}
use Rattle.art_changing.specs.MapPairs.{HoldsPairs, pairs_at}
use Rattle.art_changing.proofs.MapPuts.{at_some}
use Rattle.art_changing.proofs.Takings.{for_tree}
use Rattle.art_map.proofs.ValueLaws.{has_the_key, written_between}
use Rattle.art_changing.proofs.ViewsOfPairs.{none_other, view_is}

-- a list with one item replaced is as long
same_length : {A : Type 0} (before after : List A) (x y : A) → length (before ++ (x ∷ []) ++ after) ≡ length (before ++ (y ∷ []) ++ after)
same_length before after x y =
    length-append (before ++ x ∷ []) after ∙ ap (λ n. n + length after)
    (length-append before (x ∷ []) ∙ sym (length-append before (y ∷ []))) ∙ sym (length-append (before ++ y ∷ []) after)

-- equal options have equal items
pub one_value : {A : Type 0} {x y : A} → Some x ≡ Some y → x ≡ y
one_value e = cc

module _ {K V : Type 0} (bytes : K → List ℕ) (P : ℕ) {s : Nodes K V} {p : LeafPtr} {root : Option OpaqueNodePtr} (key : List ℕ) where
  -- the leaf that a lookup finds
  pub leaf_named : {name : OpaqueNodePtr} {len : ℕ} → root ≡ Some name → HoldsPairs (of_key bytes) P s root len (pairs_at s root) →
      ForTree (of_key bytes) P s name (λ pairs layout. FindsLeaf layout (with_key (of_key bytes) key pairs) (Some p)) → V → NamesLeafOf bytes P s root key p
  leaf_named {name} e is found any =
      let has = at_some e is in
      let (x, only, leaf_is) = found (pairs_at s root) has.layout has.by in
      record {
        name = name;
        pairs = pairs_at s root;
        layout = has.layout;
        pair = x;
        root_is = e;
        by = has.by;
        has = leaf_is;
        key_is = same_equal key (bytes x.0) (has_the_key bytes key any (pairs_at s root) x only);
      }

module _ {K V : Type 0} (bytes : K → List ℕ) (P : ℕ) {s : Nodes K V} {p : LeafPtr} {root : Option OpaqueNodePtr} (key : List ℕ)
    (n : NamesLeafOf bytes P s root key p) where
  -- the leaf is in the store
  node : LeafNode K V
  node = (leaf_found (of_key bytes) P n.by n.has).0

  there : get s.leaves p ≡ Some node
  unfolding node
  there = (leaf_found (of_key bytes) P n.by n.has).1

  its : pair_of node ≡ n.pair
  unfolding node
  its = (leaf_found (of_key bytes) P n.by n.has).2

  own : bytes node.key ≡ key
  own = ap (λ z. bytes z.0) its ∙ n.key_is

  whole : plug n.has.path (leaf (leaf_name p) (pair_of node)) ≡ n.layout
  whole = ap (λ z. plug n.has.path (leaf (leaf_name p) z)) its ∙ n.has.whole

  old : IsLaidOut (of_key bytes) P (node_at s) (links_at s) n.name n.pairs (plug n.has.path (leaf (leaf_name p) (pair_of node)))
  old = subst (IsLaidOut (of_key bytes) P (node_at s) (links_at s) n.name n.pairs) (sym whole) (laid_out n.by)

  hole : (place : List ℕ) × IsHole (of_key bytes) P n.has.path place (leaf (leaf_name p) (pair_of node)) (bytes node.key)
  hole = hole_of (of_key bytes) P n.has.path (leaf (leaf_name p) (pair_of node)) (pair_of node) old.radix (inl refl)

  pub is_there : IsSome (get s.leaves p)
  is_there = ap is_some there

  -- these are the pairs
  pairs_are : pairs_at s root ≡ n.pairs
  pairs_are = ap (pairs_at s) n.root_is ∙ view_is (of_key bytes) P s (Some n.name) (Some n.layout) n.by

  -- this leaf alone has the key
  its_pair : with_key (of_key bytes) key n.pairs ≡ pair_of node ∷ []
  its_pair =
      let found = with_key-hole (of_key bytes) P n.has.path hole.0 (bytes node.key) (leaf (leaf_name p) (pair_of node)) hole.1.path hole.1.front in
      ap (with_key (of_key bytes) key) (sym old.pairs_are)
      ∙ ap (λ k. with_key (of_key bytes) k (pairs_of (plug n.has.path (leaf (leaf_name p) (pair_of node))))) (sym own) ∙ found
      ∙ rw (front_same (bytes node.key)) refl

  pub is_stored : has_key (of_key bytes) key (pairs_at s root) ≡ true
  is_stored = ap (has_key (of_key bytes) key) pairs_are ∙ any_is_first (λ x. are_same key (bytes x.0)) n.pairs ∙ ap (λ xs. is_some (first_of xs)) its_pair

  -- the pair of the leaf is that of the key
  pub pair_read : {found : Option (K × V)} {before : List (K × V)} → option_map pair_of (get s.leaves p) ≡ found → pairs_at s root ≡ before →
      found ≡ first_of (with_key (of_key bytes) key before)
  pair_read read view =
      sym read ∙ ap (option_map pair_of) there ∙ ap first_of (sym its_pair) ∙ ap (λ xs. first_of (with_key (of_key bytes) key xs)) (sym pairs_are ∙ view)

  -- the value of the leaf is that of the key
  pub value_read : {before : List (K × V)} → pairs_at s root ≡ before → option_map (λ node. node.value) (get s.leaves p) ≡ value_at bytes key before
  value_read view = ap (option_map (λ node. node.value)) there ∙ ap (λ xs. option_map (λ x. x.1) (first_of xs)) (sym its_pair)
      ∙ ap (value_at bytes key) (sym pairs_are ∙ view)

  -- the leaf gets another value, and nothing else changes
  pub value_written : {len : ℕ} → HoldsPairs (of_key bytes) P s root len (pairs_at s root) → (w : V) →
      HoldsPairs (of_key bytes) P (with_leaf_value s p w) root len (with_value_at bytes key w (pairs_at s root))
  value_written {len} is w =
      let at_name = subst (λ r. HoldsPairs (of_key bytes) P s r len (pairs_at s root)) n.root_is is in
      let (no_other, counted) = for_tree bytes P n.by at_name in
      let into : IntoLeaf (of_key bytes) P s (with_leaf_value s p w) n.has.path hole.0 p node (node.key, w) =
      record { hole = hole.1; here = there; write = with_value w; written = refl; leaves = refl; inners = refl } in
      let local : IsLocal (of_key bytes) (bytes node.key) (with_value_at bytes key w) =
      subst (λ k. IsLocal (of_key bytes) k (with_value_at bytes key w)) (sym own) (written_between bytes key w) in
      let its_own : with_value_at bytes key w (pair_of node ∷ []) ≡ (node.key, w) ∷ [] = rw (ap (are_same key) own, front_same key) refl in
      let tree = plug n.has.path (leaf (leaf_name p) (node.key, w)) in
      let kept = subst (λ z. ChangesInPlace (of_key bytes) s (with_leaf_value s p w) (Some z) (Some tree)) whole
      (leaf_kept old into (with_value_at bytes key w) local its_own) in
      rw (pairs_are, n.root_is) (record {
        tree = Some tree;
        canonical = canonical_from (leaf_changed old into (with_value_at bytes key w) local its_own);
        no_other = none_other kept.others no_other;
        len_is = counted ∙ sym (length-map n.pairs _);
      })

  -- the leaf gets another pair with the key, which replaces the old one
  pub pair_written : {len : ℕ} {t : Nodes K V} (new : K × V) → bytes new.0 ≡ key →
      HoldsPairs (of_key bytes) P s root len (pairs_at s root) → t.leaves ≡ change s.leaves p (with_pair new.0 new.1) →
      t.inners ≡ s.inners → HoldsPairs (of_key bytes) P t root len (replace_key (of_key bytes) new (pairs_at s root))
  pair_written {len} {t} new same is leaves inners =
      let at_name = subst (λ r. HoldsPairs (of_key bytes) P s r len (pairs_at s root)) n.root_is is in
      let (no_other, counted) = for_tree bytes P n.by at_name in
      let alike : bytes new.0 ≡ bytes node.key = same ∙ sym own in
      let into : IntoLeaf (of_key bytes) P s t n.has.path hole.0 p node new =
      record {
        hole = subst (IsHole (of_key bytes) P n.has.path hole.0 (leaf (leaf_name p) (pair_of node))) (sym alike) hole.1;
        here = there;
        write = with_pair new.0 new.1;
        written = refl;
        leaves = leaves;
        inners = inners;
      } in
      let F = replace_key (of_key bytes) new in
      let its_own : F (pair_of node ∷ []) ≡ new ∷ [] = rw (ap (are_same (bytes new.0)) (sym alike), front_same (bytes new.0)) refl in
      let tree = plug n.has.path (leaf (leaf_name p) new) in
      let kept =
      subst (λ z. ChangesInPlace (of_key bytes) s t (Some z) (Some tree)) whole
      (leaf_kept old into F (replace_key-between (of_key bytes) new) its_own) in
      let laid = leaf_changed old into F (replace_key-between (of_key bytes) new) its_own in
      let many = ap length (sym old.pairs_are ∙ pairs_of-plug n.has.path (leaf (leaf_name p) (pair_of node))) in
      let still = ap length (sym (pairs_of-plug n.has.path (leaf (leaf_name p) new)) ∙ laid.pairs_are) in
      rw (pairs_are, n.root_is) (record {
        tree = Some tree;
        canonical = canonical_from laid;
        no_other = none_other kept.others no_other;
        len_is = counted ∙ many ∙ same_length (pairs_before n.has.path) (pairs_after n.has.path) (pair_of node) new ∙ still;
      })

  -- and that is the pair under the key
  pub pair_swapped : {r : K × V} → IfSome (get s.leaves p) (λ other. r ≡ pair_of other) → Some r ≡ first_of (with_key (of_key bytes) key (pairs_at s root))
  pair_swapped {r} told =
      let same : r ≡ pair_of node = rw there at told in
      ap Some same ∙ sym (ap (λ xs. first_of (with_key (of_key bytes) key xs)) pairs_are ∙ ap first_of its_pair)
