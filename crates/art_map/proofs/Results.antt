-- What a change leaves, in terms of the pairs read off the store.
use Rattle.std.proofs.Common.{◌≡◌, ◌≢◌, ℕ, List, length, Option, Some, None, Result, Ok, Err, OnOk, OnErr, IfOk, IfErr, false, refl, ap, ◌∙◌, subst}
use Rattle.art_model.specs.Prelude.{Nodes, OpaqueNodePtr, IsMap, first_of, is_conflict, of_key, overwrite, put, put_reply, related_to, remove_key, replace_key, with_key, below, not_below}
use Rattle.art_model.proofs.keys.Keys.{not_same}
use Rattle.art_writing.specs.declared.insert.PairRefused.{PairRefused}
use Rattle.art_changing.specs.MapAnswers.{IsRefusalOf, value_at}
use Rattle.art_changing.specs.PairChanges.{HasPut, HasPutOver, HasTaken, HasTakenBelow}
use Rattle.art_map.specs.MapChanges.{HasReplaced}
use Rattle.art_changing.specs.MapPairs.{HoldsPairs, pairs_at}
use Rattle.art_changing.specs.declared.insert.MapInsertError.{MapInsertError}
use Rattle.art_map.proofs.CallerLaws.{value_elsewhere, value_gone, value_here, value_left}
use Rattle.art_changing.proofs.ViewsOfPairs.{holds, view_of, view_sorted}

module _ {K V : Type 0} (bytes : K → List ℕ) where
  -- What a caller knows after a pair is put.
  pub record TellsPut (key : K) (value : V) (before after : List (K × V)) (result : Result (Option (K × V)) (MapInsertError K V)) : Type 0 where
    pub pairs : OnOk result (after ≡ put (of_key bytes) (key, value) before)
    pub replaced : IfOk result (λ replaced. replaced ≡ put_reply (of_key bytes) (key, value) before)
    pub found : OnOk result (value_at bytes (bytes key) after ≡ Some value)
    pub others : OnOk result ((other : List ℕ) → other ≢ bytes key → value_at bytes other after ≡ value_at bytes other before)
    pub accepted : OnOk result (is_conflict (of_key bytes) (bytes key) before ≡ false)
    pub sorted : IsMap (of_key bytes) after
    pub refused : IfErr result (IsRefusalOf bytes key value before)
    pub kept : OnErr result (after ≡ before)

  -- What a caller knows after a pair replaces those with related keys.
  pub record TellsOver (key : K) (value : V) (before after : List (K × V)) (result : Result ℕ (PairRefused K V)) : Type 0 where
    pub pairs : OnOk result (after ≡ overwrite (of_key bytes) (key, value) before)
    pub gone : IfOk result (λ gone. gone ≡ length (related_to (of_key bytes) (bytes key) before))
    pub handed_back : IfErr result (λ refused. (refused.key ≡ key) × (refused.value ≡ value))
    pub kept : OnErr result (after ≡ before)
    pub refused : OnErr result (length (related_to (of_key bytes) (bytes key) before) ≢ 1)

  -- What a caller knows after a pair replaces the one with an equal key.
  pub record TellsReplaced (key : K) (value : V) (before after : List (K × V)) (result : Result (Option (K × V)) (MapInsertError K V)) : Type 0 where
    pub pairs : OnOk result (after ≡ replace_key (of_key bytes) (key, value) before)
    pub replaced : IfOk result (λ replaced. replaced ≡ first_of (with_key (of_key bytes) (bytes key) before))
    pub accepted : OnOk result (is_conflict (of_key bytes) (bytes key) before ≡ false)
    pub refused : IfErr result (IsRefusalOf bytes key value before)
    pub kept : OnErr result (after ≡ before)

module _ {K V : Type 0} (bytes : K → List ℕ) (P : ℕ) (pairs : List (K × V)) (t : Nodes K V) (root : Option OpaqueNodePtr) (len : ℕ) where
  module _ (key : K) (value : V) where
    pub put_holds : (result : Result (Option (K × V)) (MapInsertError K V)) → HasPut bytes P pairs key value result t root len →
        HoldsPairs (of_key bytes) P t root len (pairs_at t root)
    put_holds (Ok replaced) h = holds (of_key bytes) P t h.0
    put_holds (Err error) h = holds (of_key bytes) P t h.0

    pub tells_put : {before : List (K × V)} → pairs ≡ before → (result : Result (Option (K × V)) (MapInsertError K V)) →
        HasPut bytes P pairs key value result t root len →
        TellsPut bytes key value before (pairs_at t root) result
    tells_put same result h = subst (λ xs. TellsPut bytes key value xs (pairs_at t root) result) same (go result h)
      where
        go : (result : Result (Option (K × V)) (MapInsertError K V)) → HasPut bytes P pairs key value result t root len →
            TellsPut bytes key value pairs (pairs_at t root) result
        go (Ok replaced) h =
            let put_is = view_of (of_key bytes) P t h.0 in
            record {
              pairs = put_is;
              replaced = h.1;
              found = ap (value_at bytes (bytes key)) put_is ∙ value_here bytes key value pairs;
              others = λ other off. ap (value_at bytes other) put_is ∙ value_elsewhere bytes other key value pairs (not_same other (bytes key) off);
              accepted = h.2;
              sorted = view_sorted (of_key bytes) P t (holds (of_key bytes) P t h.0) refl;
              refused = tt;
              kept = tt;
            }
        go (Err error) h = record {
          pairs = tt;
          replaced = tt;
          found = tt;
          others = tt;
          accepted = tt;
          sorted = view_sorted (of_key bytes) P t (holds (of_key bytes) P t h.0) refl;
          refused = h.1;
          kept = view_of (of_key bytes) P t h.0;
        }

    pub replaced_holds : (result : Result (Option (K × V)) (MapInsertError K V)) → HasReplaced bytes P pairs key value result t root len →
        HoldsPairs (of_key bytes) P t root len (pairs_at t root)
    replaced_holds (Ok replaced) h = holds (of_key bytes) P t h.0
    replaced_holds (Err error) h = holds (of_key bytes) P t h.0

    pub tells_replaced : {before : List (K × V)} → pairs ≡ before → (result : Result (Option (K × V)) (MapInsertError K V)) →
        HasReplaced bytes P pairs key value result t root len →
        TellsReplaced bytes key value before (pairs_at t root) result
    tells_replaced same result h = subst (λ xs. TellsReplaced bytes key value xs (pairs_at t root) result) same (go result h)
      where
        go : (result : Result (Option (K × V)) (MapInsertError K V)) → HasReplaced bytes P pairs key value result t root len →
            TellsReplaced bytes key value pairs (pairs_at t root) result
        go (Ok replaced) h = record { pairs = view_of (of_key bytes) P t h.0; replaced = h.1; accepted = h.2; refused = tt; kept = tt }
        go (Err error) h = record { pairs = tt; replaced = tt; accepted = tt; refused = h.1; kept = view_of (of_key bytes) P t h.0 }

    pub over_holds : (result : Result ℕ (PairRefused K V)) → HasPutOver bytes P pairs key value result t root len →
        HoldsPairs (of_key bytes) P t root len (pairs_at t root)
    over_holds (Ok gone) h = holds (of_key bytes) P t h.0
    over_holds (Err refused) h = holds (of_key bytes) P t h.0

    pub tells_over : {before : List (K × V)} → pairs ≡ before → (result : Result ℕ (PairRefused K V)) → HasPutOver bytes P pairs key value result t root len →
        TellsOver bytes key value before (pairs_at t root) result
    tells_over same result h = subst (λ xs. TellsOver bytes key value xs (pairs_at t root) result) same (go result h)
      where
        go : (result : Result ℕ (PairRefused K V)) → HasPutOver bytes P pairs key value result t root len → TellsOver bytes key value pairs (pairs_at t root) result
        go (Ok gone) h = record { pairs = view_of (of_key bytes) P t h.0; gone = h.1; handed_back = tt; kept = tt; refused = tt }
        go (Err refused) (held, same_key, same_value, many) =
            record { pairs = tt; gone = tt; handed_back = (same_key, same_value); kept = view_of (of_key bytes) P t held; refused = many }

  module _ (prefix : List ℕ) (removed : ℕ) (h : HasTakenBelow bytes P pairs prefix removed t root len) where
    pub below_holds : HoldsPairs (of_key bytes) P t root len (pairs_at t root)
    below_holds = holds (of_key bytes) P t h.0

    -- what a caller knows after the pairs with a prefix are removed
    pub tells_below : {before : List (K × V)} → pairs ≡ before →
        (pairs_at t root ≡ not_below (of_key bytes) prefix before) × (removed ≡ length (below (of_key bytes) prefix before))
    tells_below same = (
      view_of (of_key bytes) P t h.0 ∙ ap (not_below (of_key bytes) prefix) same,
      h.1
          ∙ ap (λ xs. length (below (of_key bytes) prefix xs)) same,
    )

  module _ (pair : List (K × V) → Option (K × V)) (left : List (K × V) → List (K × V)) (taken : Option (K × V))
      (h : HasTaken bytes P (pair pairs) (left pairs) taken t root len) where
    pub taken_holds : HoldsPairs (of_key bytes) P t root len (pairs_at t root)
    taken_holds = holds (of_key bytes) P t h.0

    -- what a caller knows after a pair is removed
    pub tells_taken : {before : List (K × V)} → pairs ≡ before → (pairs_at t root ≡ left before) × (taken ≡ pair before)
    tells_taken same = (view_of (of_key bytes) P t h.0 ∙ ap left same, h.1 ∙ ap pair same)

module _ {K V : Type 0} (bytes : K → List ℕ) (key : List ℕ) (before after : List (K × V)) (removed : after ≡ remove_key (of_key bytes) key before) where
  -- under a removed key nothing is found
  pub none_found : value_at bytes key after ≡ None
  none_found = ap (value_at bytes key) removed ∙ value_gone bytes key before

  -- and under every other key, what was found before
  pub rest_found : (other : List ℕ) → other ≢ key → value_at bytes other after ≡ value_at bytes other before
  rest_found other off = ap (value_at bytes other) removed ∙ value_left bytes other key before (not_same other key off)
