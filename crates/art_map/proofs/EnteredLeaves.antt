-- The leaf of a key that is stored, or is inserted.
use Rattle.std.proofs.Common.{◌≡◌, ℕ, List, Option, Some, None, Result, Ok, Err, refl, ap, sym, ◌∙◌, subst, false, is_some}
use Rattle.std.proofs.lemmas.Bool.{false≢true}
use Rattle.std.specs.Option.{UnwrapsOrElse, unwrap_or}
use Rattle.art_model.specs.Prelude.{LeafPtr, OpaqueNodePtr, Nodes, IsCanonical, IsMap, first_of, has_key, of_key, put, put_reply, replace_key, stored_for, with_key, ForTree, pair_of, are_same}
use Rattle.art_model.proofs.pairs.Puts.{any_is_first, has_is_stored, put-new, put_reply-new, stored_bytes}
use Rattle.art_writing.specs.Inserted.{HasInserted, IsPointIn}
use Rattle.art_reading.specs.declared.end_node.InsertKind.TheVariants.{Exact}
use Rattle.art_writing.specs.declared.insert.InsertPoint.{InsertPoint}
use Rattle.art_writing.specs.declared.insert.InsertResult.{InsertResult}
use Rattle.art_writing.proofs.KeysFound.{conflict_new}
use Rattle.art_writing.proofs.ReplacedValues.{own_leaf}
use Rattle.art_writing.proofs.Unstored.{unstored}
use Rattle.art_changing.specs.MapAnswers.{IsRefusalOf, value_at}
use Rattle.art_map.specs.MapChanges.{HasEntered, HasEnteredFrom, HasMade, HasTried, IsPositionOf, NamesLeafOf, put_new}
use Rattle.art_changing.specs.MapPairs.{HoldsPairs, pairs_at}
use Rattle.art_changing.specs.declared.insert.MapInsertError.{MapInsertError}
use Rattle.art_changing.specs.declared.insert.MapInsertError.TheVariants as errors
use Rattle.art_map.specs.declared.map.MapMakeError.{MapMakeError}
use Rattle.art_map.specs.declared.map.to_key.MapSourceError.{MapSourceError}
use Rattle.art_map.specs.declared.map.position.Position.{Position}
use Rattle.art_map.specs.declared.map.position.Position.TheVariants as positions
use Rattle.art_changing.proofs.Items.{no_pairs}
use Rattle.art_changing.proofs.MapPuts.{is_some-map}
use Rattle.art_changing.proofs.ViewsOfPairs.{holds, map_held, view_is}

module _ {K V : Type 0} (bytes : K → List ℕ) (P : ℕ) {s : Nodes K V} {key : List ℕ} {point : InsertPoint} where
  -- where a point names the leaf of the key, the tree has it
  pub leaf_of_point : {root : Option OpaqueNodePtr} {p : LeafPtr} → IsPointIn (of_key bytes) P s key point → point.insert_kind ≡ Exact p →
      root ≡ Some point.root →
      NamesLeafOf bytes P s root key p
  leaf_of_point {root} {p} answers exact e =
      let (pairs, layout, by, at) = answers in
      let l = own_leaf answers exact by in
      record {
        name = point.root;
        pairs = pairs;
        layout = layout;
        pair = pair_of l.at.shown;
        root_is = e;
        by = by;
        has = record { path = l.at.path; whole = l.at.whole };
        key_is = l.same;
      }

  -- where a point names no leaf of the key, the key is not stored
  pub point_new : {root : Option OpaqueNodePtr} → root ≡ Some point.root → IsPointIn (of_key bytes) P s key point →
      ((p : LeafPtr) → point.insert_kind ≡ Exact p → ⊥) →
      has_key (of_key bytes) key (pairs_at s root) ≡ false
  point_new {root} e (pairs, layout, by, at) off =
      subst (λ xs. has_key (of_key bytes) key xs ≡ false)
      (sym (ap (pairs_at s) e ∙ view_is (of_key bytes) P s (Some point.root) (Some layout) by)) (unstored by at off)

-- a key whose position is no leaf is not stored
pub position_new : {K V : Type 0} (bytes : K → List ℕ) (P : ℕ) {s : Nodes K V} {root : Option OpaqueNodePtr} {len : ℕ} (key : List ℕ) →
    HoldsPairs (of_key bytes) P s root len (pairs_at s root) →
    (place : Position) → IsPositionOf bytes P s root key place → ((leaf : LeafPtr) → place ≡ positions.Leaf leaf → ⊥) →
    has_key (of_key bytes) key (pairs_at s root) ≡ false
position_new bytes P key is (positions.Leaf leaf) at off = absurd (off leaf refl)
position_new bytes P key is (positions.Point point) (root_is, point_in, exact, free) off = point_new bytes P root_is point_in exact
position_new bytes P {s} key is positions.Bare at off = ap (has_key (of_key bytes) key) (no_pairs (of_key bytes) P s at is)
position_new bytes P {s} {root} key is (positions.Refused error) (any, related) off =
    conflict_new (of_key bytes) key (pairs_at s root) (map_held (of_key bytes) P s is) related

-- a key without a value is not stored
pub none_stored : {K V : Type 0} (bytes : K → List ℕ) (key : List ℕ) (pairs : List (K × V)) → value_at bytes key pairs ≡ None →
    has_key (of_key bytes) key pairs ≡ false
none_stored bytes key pairs e =
    any_is_first (λ x. are_same key (bytes x.0)) pairs ∙ sym (is_some-map (λ x. x.1) (first_of (with_key (of_key bytes) key pairs))) ∙ ap is_some e

-- and neither is a rejected key
pub none_refused : {K V : Type 0} (bytes : K → List ℕ) (key : K) (value : V) (pairs : List (K × V)) → IsMap (of_key bytes) pairs →
    (error : MapInsertError K V) →
    IsRefusalOf bytes key value pairs error → has_key (of_key bytes) (bytes key) pairs ≡ false
none_refused bytes key value pairs rising (errors.Conflict k v error) (same_key, same_value, spelled, related) =
    conflict_new (of_key bytes) (bytes key) pairs rising related
none_refused bytes key value pairs rising (errors.Memory k v) (same_key, same_value, none) = none

-- the value that exists, or the one that was made
pub unwraps : {V : Type 0} (IsMade : V → Type 0) (o : Option V) (value lent : V) → (o ≡ None → IsMade value) → lent ≡ unwrap_or o value →
    UnwrapsOrElse o IsMade lent
unwraps IsMade None value lent made e = subst IsMade (sym e) (made refl)
unwraps IsMade (Some x) value lent made e = e

module _ {K V : Type 0} (bytes : K → List ℕ) (new : K × V) (pairs : List (K × V)) (none : has_key (of_key bytes) (bytes new.0) pairs ≡ false) where
  -- a pair whose key is not stored is put
  pub new_is_put : put (of_key bytes) new pairs ≡ put_new bytes new pairs
  new_is_put = rw none refl

  -- it is inserted in its place, and replaces no pair
  pub new_replaces : (replace_key (of_key bytes) new pairs ≡ put_new bytes new pairs) × (None ≡ first_of (with_key (of_key bytes) (bytes new.0) pairs))
  new_replaces = go (first_of (with_key (of_key bytes) (bytes new.0) pairs)) refl
    where
      go : (o : Option (K × V)) → first_of (with_key (of_key bytes) (bytes new.0) pairs) ≡ o →
          (replace_key (of_key bytes) new pairs ≡ put_new bytes new pairs) × (None ≡ first_of (with_key (of_key bytes) (bytes new.0) pairs))
      go None e = (sym (put-new (of_key bytes) new pairs e) ∙ new_is_put, sym e)
      go (Some x) e = absurd (false≢true (sym none ∙ has_is_stored (of_key bytes) new pairs ∙ ap is_some e))

  -- and nothing is returned
  pub none_back : put_reply (of_key bytes) new pairs ≡ None
  none_back = go (first_of (with_key (of_key bytes) (bytes new.0) pairs)) refl
    where
      go : (o : Option (K × V)) → first_of (with_key (of_key bytes) (bytes new.0) pairs) ≡ o → put_reply (of_key bytes) new pairs ≡ None
      go None e = put_reply-new (of_key bytes) new pairs e
      go (Some x) e = absurd (false≢true (sym none ∙ has_is_stored (of_key bytes) new pairs ∙ ap is_some e))

-- the leaf that an insertion returns is that of the key
pub leaf_of_result : {K V : Type 0} (bytes : K → List ℕ) (P : ℕ) {t : Nodes K V} {point : InsertPoint} (new : K × V) (after : List (K × V))
    (done : InsertResult K V) →
    IsCanonical (of_key bytes) P t (Some done.new_root) after →
    ForTree (of_key bytes) P t done.new_root (λ pairs layout. HasInserted layout point (stored_for (of_key bytes) new pairs) done) →
    NamesLeafOf bytes P t (Some done.new_root) (bytes new.0) done.leaf_node_ptr
leaf_of_result bytes P new after done (layout, by) told =
    let has = told after layout by in
    record {
      name = done.new_root;
      pairs = after;
      layout = layout;
      pair = stored_for (of_key bytes) new after;
      root_is = refl;
      by = by;
      has = record { path = has.path; whole = has.whole };
      key_is = stored_bytes bytes new after;
    }

module _ {K V : Type 0} (bytes : K → List ℕ) (P : ℕ) (pairs : List (K × V)) (t : Nodes K V) (root : Option OpaqueNodePtr) (len : ℕ) (key : K) (value : V) where
  -- the pairs read off the store are held, whatever the result
  pub enters_holds : (result : Result LeafPtr (MapInsertError K V)) → HasEntered bytes P pairs key value result t root len →
      HoldsPairs (of_key bytes) P t root len (pairs_at t root)
  enters_holds (Ok leaf) h = holds (of_key bytes) P t h.0
  enters_holds (Err error) h = holds (of_key bytes) P t h.0

  -- the same if the key was made from a source
  pub entered_from_holds : (IsKey AllocatesNothing : Type 0) (result : Result LeafPtr (MapSourceError K V)) →
      HasEnteredFrom bytes P pairs key IsKey AllocatesNothing value result t root len →
      HoldsPairs (of_key bytes) P t root len (pairs_at t root)
  entered_from_holds IsKey free (Ok leaf) h = holds (of_key bytes) P t h.0.0
  entered_from_holds IsKey free (Err error) h = holds (of_key bytes) P t h.0

-- the same if the value was made
pub made_holds : {K V : Type 0} (bytes : K → List ℕ) (P : ℕ) (pairs : List (K × V)) (t : Nodes K V) (root : Option OpaqueNodePtr) (len : ℕ)
    (key : K) (IsMade : V → Type 0)
    (result : Result LeafPtr (MapInsertError K V)) → HasMade bytes P pairs key IsMade result t root len →
    HoldsPairs (of_key bytes) P t root len (pairs_at t root)
made_holds bytes P pairs t root len key IsMade result (value, made, entered) = enters_holds bytes P pairs t root len key value result entered

pub tried_holds : {K V E : Type 0} (bytes : K → List ℕ) (P : ℕ) (pairs : List (K × V)) (t : Nodes K V) (root : Option OpaqueNodePtr)
    (len : ℕ) (key : K) (IsMade : Result V E → Type 0)
    (result : Result LeafPtr (MapMakeError K V E)) → HasTried bytes P pairs key IsMade result t root len →
    HoldsPairs (of_key bytes) P t root len (pairs_at t root)
tried_holds bytes P pairs t root len key IsMade (Ok leaf) (value, made, entered) = holds (of_key bytes) P t entered.0
tried_holds bytes P pairs t root len key IsMade (Err error) h = holds (of_key bytes) P t h.0
