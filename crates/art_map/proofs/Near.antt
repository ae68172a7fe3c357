-- Leaves that are read under a name that may be wrong.
use Rattle.std.proofs.Common.{◌≡◌, ℕ, List, Option, Some, None, IfSome, is_some, refl, ap, sym, ◌∙◌, subst, true, option_map}
use Rattle.std.specs.FinMap.{get}
use Rattle.art_model.specs.Prelude.{LeafNode, LeafPtr, OpaqueNodePtr, with_value, with_leaf_value, Nodes, change, are_same, FindsLeaf, first_of, has_key, of_key, put, put_reply, with_key, ForTree, pair_of}
use Rattle.art_model.proofs.pairs.Puts.{any_is_first}
use Rattle.art_map.specs.MapChanges.{HasKeyAt, IsLeafOfKey, NamesLeafOf}
use Rattle.art_changing.specs.MapPairs.{HoldsPairs, pairs_at}
use Rattle.art_map.proofs.LeafOf.{leaf_of_map}
use Rattle.art_changing.proofs.MapPuts.{at_some, stays}
use Rattle.art_map.proofs.ValueLaws.{new_written}
use Rattle.art_changing.proofs.ViewsOfPairs.{map_held}
use Rattle.art_map.proofs.WrittenValues.{is_stored, leaf_named, pair_swapped, value_written}

module _ {K V : Type 0} (bytes : K → List ℕ) (P : ℕ) {s : Nodes K V} where
  -- a leaf that has a key is the key's
  pub near_named : {root : Option OpaqueNodePtr} {len : ℕ} (key : List ℕ) (leaf : LeafPtr) → HasKeyAt bytes s leaf key →
      HoldsPairs (of_key bytes) P s root len (pairs_at s root) → NamesLeafOf bytes P s root key leaf
  near_named {root} key leaf (node, there, same) holds =
      subst (λ k. NamesLeafOf bytes P s root k leaf) same (leaf_of_map bytes P there holds)

  -- what a lookup finds is the leaf of the key
  pub found_named : {name : OpaqueNodePtr} {len : ℕ} (key : List ℕ) (result : Option LeafPtr) →
      HoldsPairs (of_key bytes) P s (Some name) len (pairs_at s (Some name)) →
      ForTree (of_key bytes) P s name (λ pairs layout. FindsLeaf layout (with_key (of_key bytes) key pairs) result) →
      IsLeafOfKey bytes P s name key result
  found_named {name} key None holds found =
      let has = at_some refl holds in found (pairs_at s (Some name)) has.layout has.by
  found_named {name} key (Some leaf) holds found =
      let has = at_some refl holds in
      let (x, only, its) = found (pairs_at s (Some name)) has.layout has.by in
      leaf_named bytes P key refl holds found x.1

  -- the key of each leaf in the store is stored
  pub key_stored : {root : Option OpaqueNodePtr} {len : ℕ} (leaf : LeafPtr) {node : LeafNode K V} → get s.leaves leaf ≡ Some node →
      HoldsPairs (of_key bytes) P s root len (pairs_at s root) → has_key (of_key bytes) (bytes node.key) (pairs_at s root) ≡ true
  key_stored {root} {len} leaf {node} there holds = is_stored bytes P (bytes node.key) (leaf_of_map bytes P there holds)

  -- a leaf with a key gets a value: that puts the pair
  pub value_put : {t : Nodes K V} {root : Option OpaqueNodePtr} {len : ℕ} (key : K) (value : V) (leaf : LeafPtr) → HasKeyAt bytes s leaf (bytes key) →
      HoldsPairs (of_key bytes) P s root len (pairs_at s root) → t.leaves ≡ change s.leaves leaf (with_value value) → t.inners ≡ s.inners →
      HoldsPairs (of_key bytes) P t root len (put (of_key bytes) (key, value) (pairs_at s root))
  value_put {t} {root} {len} key value leaf at holds leaves inners =
      let named = near_named (bytes key) leaf at holds in
      let rising = map_held (of_key bytes) P s holds in
      let stored = is_stored bytes P (bytes key) named in
      let same = rw stored at (new_written bytes key (pairs_at s root) rising value value) in
      subst (HoldsPairs (of_key bytes) P t root len) same
      (stays (of_key bytes) P (with_leaf_value s leaf value) t leaves inners (value_written bytes P (bytes key) named holds value))

  -- and the old value is returned with the key
  pub value_replaced : {root : Option OpaqueNodePtr} {len : ℕ} (key : K) (old : V) (leaf : LeafPtr) → HasKeyAt bytes s leaf (bytes key) →
      HoldsPairs (of_key bytes) P s root len (pairs_at s root) → IfSome (get s.leaves leaf) (λ node. old ≡ node.value) → (value : V) →
      Some (key, old) ≡ put_reply (of_key bytes) (key, value) (pairs_at s root)
  value_replaced {root} key old leaf (node, there, same) holds told value =
      let named = near_named (bytes key) leaf (node, there, same) holds in
      let its : IfSome (get s.leaves leaf) (λ other. pair_of node ≡ pair_of other) = rw there refl in
      let own : old ≡ node.value = rw there at told in
      ap (λ v. Some (key, v)) own ∙ ap (option_map (λ x. (key, x.1))) (pair_swapped bytes P (bytes key) named its)

-- there is a leaf of a key if the key is stored
pub leaf_tells : {K V : Type 0} (bytes : K → List ℕ) (P : ℕ) (s : Nodes K V) (name : OpaqueNodePtr) (key : List ℕ) (result : Option LeafPtr) →
    IsLeafOfKey bytes P s name key result → is_some result ≡ has_key (of_key bytes) key (pairs_at s (Some name))
leaf_tells bytes P s name key None none =
    sym (any_is_first (λ x. are_same key (bytes x.0)) (pairs_at s (Some name)) ∙ ap (λ xs. is_some (first_of xs)) none)
leaf_tells bytes P s name key (Some leaf) named = sym (is_stored bytes P key named)
