-- the laws of maps
use Rattle.std.proofs.Common.{◌≡◌, ◌≢◌, ℕ, ◌+◌, ◌≤◌, List, [], ◌∷◌, length, filter, map, Option, Some, None, is_some, refl, ap, sym, ◌∙◌, subst, append-nil, eq-eqb, arith, true, false, not, ◌&&◌, ◌||◌, cond, Bool, ◌⊎◌, inl, inr, option_map}
use Rattle.std.specs.List.{AllByRecursion as Each, list_any, cons_option}
use Rattle.std.specs.Bool.{Decides}
use Rattle.std.proofs.lemmas.Bool.{true≢false, false≢true}
use Rattle.std.proofs.lemmas.List.Filters.{length-filter_both}
use Rattle.art_model.specs.Prelude.{IsFront, is_front, are_related, are_same, is_before, Precedes, first_of, only_or_count, IsMap, with_key, related_to, is_conflict, stored_for, put, overwrite, overwrite_reply, replace_key, replace_related, remove_key, remove_related, add_in_order, of_key}
use Rattle.art_model.specs.Changes.{Change, put_pair, overwrite_with, remove_at, remove_first, remove_last, changed}
use Rattle.art_model.specs.MapLaws.{Tells, KeysAreOnce, MatchesAreOne, MapsAreWhatIsFound, KeysAreDecided, ConflictsAreDecided, MapsStayMaps, PutIsFound, OverwriteIsFound, RemovedIsGone, FirstIsRemovedByKey, LastIsRemovedByKey, PutIsUndone, StoredKeyStays, NewKeyComes, PutKeepsKeys, OverwriteOfKeyIsPut, PutTells, OverwriteTells, RemovalTells, PutCounts, OverwriteCounts, RemovalCounts}
use Rattle.art_model.proofs.pairs.Between.{add_in_order_first}
use Rattle.art_model.proofs.lists.Lists.{Each-weaker, filter_none}
use Rattle.art_model.proofs.keys.Keys.{front_same, not_same, same_equal, same_related, related_sym, front_from, precedes_apart}
use Rattle.art_model.proofs.keys.KeyLaws.{order_is_transitive, order_is_total, order_is_strict, relation_is_decided, sameness_is_decided}
use Rattle.art_model.proofs.pairs.PutOver.{free_unrelated, same_rest, stored_is_free}
use Rattle.art_model.proofs.pairs.Puts.{first_has, has_is_stored, overwrite-new, overwrite-put, overwrite_reply-new, overwrite_reply-put, stored_bytes, stored_value, stored_for-new, stored_for-old}
use Rattle.art_model.proofs.lists.Filters.{Each-both, Each-filter, Pairwise-filter, filter_passes, none_passes, filter_all, filter_filter, last_each, Pairwise-without_last, Each-add, length-add, filter_add, filter_add_alone}

-- booleans
fails : (t : Bool) → (t ≡ true → ⊥) → t ≡ false
fails true h = absurd (h refl)
fails false h = refl

not_true : (t : Bool) → not t ≡ true → t ≡ false
not_true true h = absurd (false≢true h)
not_true false h = refl

not_not : (t : Bool) → not t ≡ false → t ≡ true
not_not true h = refl
not_not false h = absurd (true≢false h)

not_false : (t : Bool) → t ≡ false → not t ≡ true
not_false t e = rw e refl

or_false : (s t : Bool) → (s || t) ≡ false → (s ≡ false) × (t ≡ false)
or_false true t h = absurd (true≢false h)
or_false false t h = (refl, h)

-- keys
equal_related : (a b : List ℕ) → a ≡ b → are_related a b ≡ true
equal_related a b e = (relation_is_decided a b).1 (inl ([], sym e ∙ sym (append-nil a)))

same_sym : (a b : List ℕ) → are_same a b ≡ false → are_same b a ≡ false
same_sym a b h = not_same b a (λ e. true≢false (sym ((sameness_is_decided a b).1 (sym e)) ∙ h))

and_true : (s : Bool) → (s && true) ≡ false → s ≡ false
and_true true h = h
and_true false h = refl

double : (t : Bool) → t ≡ not (not t)
double true = refl
double false = refl

other_way : (a b : List ℕ) → is_before a b ≡ false → are_related a b ≡ false → Precedes b a
other_way a b h apart = (go (order_is_total a b), related_sym b a ∙ apart)
  where
    go : (is_before a b ≡ true) ⊎ ((a ≡ b) ⊎ (is_before b a ≡ true)) → is_before b a ≡ true
    go (inl e) = absurd (true≢false (sym e ∙ h))
    go (inr (inl e)) = absurd (true≢false (sym (equal_related a b e) ∙ apart))
    go (inr (inr e)) = e

-- prefixes of one list are related
both_fronts : (a b whole : List ℕ) → IsFront a whole → IsFront b whole → are_related a b ≡ true
both_fronts [] b whole f g = refl
both_fronts (x ∷ a) [] whole f g = refl
both_fronts (x ∷ a) (y ∷ b) [] f g = let e = f.1 in absurd cc
both_fronts (x ∷ a) (y ∷ b) (z ∷ whole) (r, e) (s, h) =
    let first : x ≡ y = cc in
    let ih = both_fronts a b whole (r, cc) (s, cc) in
    rw (eq-eqb x y first, eq-eqb y x (sym first)) ih

module _ {A : Type 0} (bytes : A → List ℕ) where
  -- keys that are not related to a key
  abbrev Unrelated : List ℕ → List A → Type 0
  Unrelated key xs = Each (λ x. are_related key (bytes x) ≡ false) xs

  after_is_unrelated : (x : A) (xs : List A) → Each (λ y. Precedes (bytes x) (bytes y)) xs → Unrelated (bytes x) xs
  after_is_unrelated x xs h = Each-weaker (λ y. Precedes (bytes x) (bytes y)) (λ y. are_related (bytes x) (bytes y) ≡ false) (λ y p. p.1) xs h

  all_stay : (key : List ℕ) (xs : List A) → Unrelated key xs → remove_key bytes key xs ≡ xs
  all_stay key xs h =
      filter_all (λ x. not (are_same key (bytes x))) xs (Each-weaker (λ x. are_related key (bytes x) ≡ false)
      (λ x. not (are_same key (bytes x)) ≡ true) (λ x e. not_false (are_same key (bytes x)) (same_related key (bytes x) e)) xs h)

  -- ---- a map

  -- where two that pass are never related, at most one of a map passes
  few_pass : (test : A → Bool) → ((x y : A) → test x ≡ true → test y ≡ true → are_related (bytes x) (bytes y) ≡ true) → (xs : List A) →
      IsMap bytes xs → length (filter test xs) ≤ 1
  few_pass test f [] h = omega arith
  few_pass test f (x ∷ xs) h = go (few_pass test f xs h.1) (test x) refl
    where
      go : length (filter test xs) ≤ 1 → (t : Bool) → test x ≡ t → length (cond t (x ∷ filter test xs) (filter test xs)) ≤ 1
      go ih true e =
          rw (filter_none test xs (Each-weaker (λ y. Precedes (bytes x) (bytes y)) (λ y. test y ≡ false)
          (λ y p. fails (test y) (λ g. true≢false (sym (f x y e g) ∙ p.1))) xs h.0)) (omega arith)
      go ih false e = ih

  pub keys_are_once : KeysAreOnce bytes
  keys_are_once key pairs map = few_pass (λ x. are_same key (bytes x))
      (λ x y e g. equal_related (bytes x) (bytes y) (same_equal key (bytes x) e ∙ sym (same_equal key (bytes y) g))) pairs map

  pub matches_are_one : MatchesAreOne bytes
  matches_are_one query pairs map = few_pass (λ x. is_front (bytes x) query)
      (λ x y e g. both_fronts (bytes x) (bytes y) query (front_from (bytes x) query e) (front_from (bytes y) query g)) pairs map

  none_any : (test : A → Bool) (P : A → Type 0) → ((x : A) → test x ≡ false → P x) → ((x : A) → P x → test x ≡ false) → (xs : List A) →
      Decides (not (list_any test xs)) (Each P xs)
  none_any test P f g [] = ((λ h. tt), (λ h. refl))
  none_any test P f g (x ∷ xs) =
      let ih = none_any test P f g xs in (
        (λ h. let (first, rest) = or_false (test x) (list_any test xs) (not_true (test x || list_any test xs) h) in
            (f x first, ih.0 (not_false (list_any test xs) rest))),
        (λ k. rw (g x k.0) (ih.1 k.1)),
      )

  pub keys_are_decided : KeysAreDecided bytes
  keys_are_decided key pairs = none_any (λ x. are_same key (bytes x)) (λ x. key ≢ bytes x)
      (λ x e same. true≢false (sym ((sameness_is_decided key (bytes x)).1 same) ∙ e)) (λ x apart. not_same key (bytes x) apart) pairs

  pub conflicts_are_decided : ConflictsAreDecided bytes
  conflicts_are_decided key pairs =
      none_any (λ x. are_related key (bytes x) && not (are_same key (bytes x))) (λ x. are_related key (bytes x) ≡ true → key ≡ bytes x)
      (λ x e related. equal (bytes x) (rw related at e)) (λ x f. harmless (bytes x) (are_related key (bytes x)) f) pairs
    where
      equal : (k : List ℕ) → not (are_same key k) ≡ false → key ≡ k
      equal k e = (sameness_is_decided key k).0 (not_not (are_same key k) e)

      harmless : (k : List ℕ) (t : Bool) → (t ≡ true → key ≡ k) → (t && not (are_same key k)) ≡ false
      harmless k true f = rw ((sameness_is_decided key k).1 (f refl)) refl
      harmless k false f = refl

  -- ---- what changes leave

  -- a pair that is related to none is added to a map
  added : (new : A) (xs : List A) → IsMap bytes xs → Unrelated (bytes new) xs → IsMap bytes (add_in_order bytes new xs)
  added new [] map apart = (tt, tt)
  added new (x ∷ xs) map apart = go (added new xs map.1 apart.1) (is_before (bytes new) (bytes x)) refl
    where
      R : A → A → Type 0
      R y z = Precedes (bytes y) (bytes z)

      go : IsMap bytes (add_in_order bytes new xs) → (t : Bool) → is_before (bytes new) (bytes x) ≡ t →
          IsMap bytes (cond t (new ∷ x ∷ xs) (x ∷ add_in_order bytes new xs))
      go ih true e = (
        (
          (e, apart.0),
          Each-both (R x) (λ y. are_related (bytes new) (bytes y) ≡ false) (R new)
              (λ y p a. (order_is_transitive (bytes new) (bytes x) (bytes y) e p.0, a)) xs map.0 apart.1,
        ),
        map,
      )
      go ih false e = (Each-add bytes (R x) new xs (other_way (bytes new) (bytes x) e apart.0) map.0, ih)

  left_unrelated : (key : List ℕ) (xs : List A) → is_conflict bytes key xs ≡ false → Unrelated key (remove_key bytes key xs)
  left_unrelated key [] h = tt
  left_unrelated key (x ∷ xs) h =
      let parts = or_false (are_related key (bytes x) && not (are_same key (bytes x))) (is_conflict bytes key xs) h in
      go (left_unrelated key xs parts.1) (are_same key (bytes x)) parts.0
    where
      go : Unrelated key (remove_key bytes key xs) → (t : Bool) → (are_related key (bytes x) && not t) ≡ false →
          Unrelated key (cond (not t) (x ∷ remove_key bytes key xs) (remove_key bytes key xs))
      go ih true e = ih
      go ih false e = (and_true (are_related key (bytes x)) e, ih)

  rest_unrelated : (key : List ℕ) (xs : List A) → Unrelated key (remove_related bytes key xs)
  rest_unrelated key xs =
      Each-weaker (λ x. not (are_related key (bytes x)) ≡ true) (λ x. are_related key (bytes x) ≡ false)
      (λ x e. not_true (are_related key (bytes x)) e) (remove_related bytes key xs) (filter_passes (λ x. not (are_related key (bytes x))) xs)

  -- a pair in place of others leaves a map
  replaced_map : (new : A) (pairs : List A) → IsMap bytes pairs → is_conflict bytes (bytes new) pairs ≡ false → IsMap bytes (replace_key bytes new pairs)
  replaced_map new pairs map free =
      added new (remove_key bytes (bytes new) pairs) (Pairwise-filter (λ x y. Precedes (bytes x) (bytes y))
      (λ x. not (are_same (bytes new) (bytes x))) pairs map) (left_unrelated (bytes new) pairs free)

  related_replaced_map : (new : A) (pairs : List A) → IsMap bytes pairs → IsMap bytes (replace_related bytes new pairs)
  related_replaced_map new pairs map =
      added new (remove_related bytes (bytes new) pairs) (Pairwise-filter (λ x y. Precedes (bytes x) (bytes y))
      (λ x. not (are_related (bytes new) (bytes x))) pairs map) (rest_unrelated (bytes new) pairs)

  -- ---- what is found

  not_key : (key gone : List ℕ) (x : A) → are_same key gone ≡ false → are_same key (bytes x) ≡ true → not (are_same gone (bytes x)) ≡ true
  not_key key gone x h e = not_false (are_same gone (bytes x)) (subst (λ k. are_same gone k ≡ false) (sym (same_equal key (bytes x) e)) (same_sym key gone h))

  none_same : (key gone : List ℕ) (pairs : List A) → key ≡ gone → Each (λ x. are_same key (bytes x) ≡ false) (remove_key bytes gone pairs)
  none_same key gone pairs e =
      Each-weaker (λ x. not (are_same gone (bytes x)) ≡ true) (λ x. are_same key (bytes x) ≡ false)
      (λ x h. rw e (not_true (are_same gone (bytes x)) h)) (remove_key bytes gone pairs) (filter_passes (λ x. not (are_same gone (bytes x))) pairs)

  pub removed_is_gone : RemovedIsGone bytes
  removed_is_gone key gone pairs = go (are_same key gone) refl
    where
      go : (t : Bool) → are_same key gone ≡ t → with_key bytes key (remove_key bytes gone pairs) ≡ cond t [] (with_key bytes key pairs)
      go true e = filter_none (λ x. are_same key (bytes x)) (remove_key bytes gone pairs) (none_same key gone pairs (sym (same_equal key gone e)))
      go false e = filter_filter (λ x. are_same key (bytes x)) (λ x. not (are_same gone (bytes x))) (λ x h. not_key key gone x e h) pairs

  replaced_is_found : (key : List ℕ) (new : A) (pairs : List A) →
      with_key bytes key (replace_key bytes new pairs) ≡ cond (are_same key (bytes new)) (new ∷ []) (with_key bytes key pairs)
  replaced_is_found key new pairs = go (are_same key (bytes new)) refl
    where
      go : (t : Bool) → are_same key (bytes new) ≡ t → with_key bytes key (replace_key bytes new pairs) ≡ cond t (new ∷ []) (with_key bytes key pairs)
      go true e = filter_add_alone bytes (λ x. are_same key (bytes x)) new (remove_key bytes (bytes new) pairs) e
          (none_same key (bytes new) pairs (sym (same_equal key (bytes new) e)))
      go false e =
          filter_add bytes (λ x. are_same key (bytes x)) new (remove_key bytes (bytes new) pairs) e ∙
          filter_filter (λ x. are_same key (bytes x)) (λ x. not (are_same (bytes new) (bytes x))) (λ x h. not_key key (bytes new) x e h) pairs

  related_replaced_is_found : (key : List ℕ) (new : A) (pairs : List A) →
      with_key bytes key (replace_related bytes new pairs)
      ≡ cond (are_same key (bytes new)) (new ∷ []) (cond (are_related key (bytes new)) [] (with_key bytes key pairs))
  related_replaced_is_found key new pairs = go (are_same key (bytes new)) (are_related key (bytes new)) refl refl
    where
      -- what is left has no key that is related to the new one
      other : (k : List ℕ) → are_related k (bytes new) ≡ true → Each (λ x. are_same k (bytes x) ≡ false) (remove_related bytes (bytes new) pairs)
      other k related = Each-weaker (λ x. are_related (bytes new) (bytes x) ≡ false) (λ x. are_same k (bytes x) ≡ false)
          (λ x h. not_same k (bytes x) (λ e. true≢false (sym (subst (λ z. are_related (bytes new) z ≡ true) e (related_sym (bytes new) k ∙ related)) ∙ h)))
          (remove_related bytes (bytes new) pairs) (rest_unrelated (bytes new) pairs)

      go : (s t : Bool) → are_same key (bytes new) ≡ s → are_related key (bytes new) ≡ t →
          with_key bytes key (replace_related bytes new pairs) ≡ cond s (new ∷ []) (cond t [] (with_key bytes key pairs))
      go true t e r =
          filter_add_alone bytes (λ x. are_same key (bytes x)) new (remove_related bytes (bytes new) pairs) e
          (other key (equal_related key (bytes new) (sym (same_equal key (bytes new) e))))
      go false true e r =
          filter_add bytes (λ x. are_same key (bytes x)) new (remove_related bytes (bytes new) pairs) e ∙
          filter_none (λ x. are_same key (bytes x)) (remove_related bytes (bytes new) pairs) (other key r)
      go false false e r = filter_add bytes (λ x. are_same key (bytes x)) new (remove_related bytes (bytes new) pairs) e
          ∙ filter_filter (λ x. are_same key (bytes x)) (λ x. not (are_related (bytes new) (bytes x)))
          (λ x h. not_false (are_related (bytes new) (bytes x))
          (subst (λ z. are_related (bytes new) z ≡ false) (sym (same_equal key (bytes x) h)) (related_sym (bytes new) key ∙ r))) pairs

  -- ---- maps with the same answers

  own : (x : A) (xs : List A) → with_key bytes (bytes x) (x ∷ xs) ≡ x ∷ with_key bytes (bytes x) xs
  own x xs = rw (front_same (bytes x)) refl

  -- nothing is found under a key that is before all
  none_before : (key : List ℕ) (y : A) (ys : List A) → is_before key (bytes y) ≡ true → Each (λ z. Precedes (bytes y) (bytes z)) ys →
      with_key bytes key (y ∷ ys) ≡ []
  none_before key y ys h map = filter_none (λ x. are_same key (bytes x)) (y ∷ ys) (
    apart (bytes y) h,
    Each-weaker (λ z. Precedes (bytes y) (bytes z)) (λ z. are_same key (bytes z) ≡ false)
        (λ z p. apart (bytes z) (order_is_transitive key (bytes y) (bytes z) h p.0)) ys map,
  )
    where
      apart : (k : List ℕ) → is_before key k ≡ true → are_same key k ≡ false
      apart k b = not_same key k (λ e. true≢false (sym (subst (λ z. is_before key z ≡ true) (sym e) b) ∙ order_is_strict key))

  pub maps_are_what_is_found : MapsAreWhatIsFound bytes
  maps_are_what_is_found [] [] map maps alike = refl
  maps_are_what_is_found [] (y ∷ ys) map maps alike = let e = sym (own y ys) ∙ alike (bytes y) in absurd cc
  maps_are_what_is_found (x ∷ xs) [] map maps alike = let e = sym (own x xs) ∙ sym (alike (bytes x)) in absurd cc
  maps_are_what_is_found (x ∷ xs) (y ∷ ys) map maps alike = go (order_is_total (bytes x) (bytes y)) (maps_are_what_is_found xs ys map.1 maps.1)
    where
      rest : (key : List ℕ) → bytes y ≡ bytes x → (t : Bool) → are_same key (bytes x) ≡ t → with_key bytes key ys ≡ with_key bytes key xs
      rest key e true h = let both = rw (e, h) at (alike key) in cc
      rest key e false h = rw (e, h) at (alike key)

      go : (is_before (bytes x) (bytes y) ≡ true) ⊎ ((bytes x ≡ bytes y) ⊎ (is_before (bytes y) (bytes x) ≡ true)) →
          (((key : List ℕ) → with_key bytes key ys ≡ with_key bytes key xs) → ys ≡ xs) → y ∷ ys ≡ x ∷ xs
      go (inl h) ih = let e = sym (own x xs) ∙ sym (alike (bytes x)) ∙ none_before (bytes x) y ys h maps.0 in absurd cc
      go (inr (inr h)) ih = let e = sym (own y ys) ∙ alike (bytes y) ∙ none_before (bytes y) x xs h map.0 in absurd cc
      go (inr (inl e)) ih =
          let tails = ih (λ key. rest key (sym e) (are_same key (bytes x)) refl) in
          let first = sym (own y ys) ∙ ap (λ k. with_key bytes k (y ∷ ys)) (sym e) ∙ alike (bytes x) ∙ own x xs in
          cc

  -- ---- the ends, and the undoing

  pub first_is_removed_by_key : FirstIsRemovedByKey bytes
  first_is_removed_by_key x pairs map = rw (front_same (bytes x)) (all_stay (bytes x) pairs (after_is_unrelated x pairs map.0))

  pub last_is_removed_by_key : LastIsRemovedByKey bytes
  last_is_removed_by_key z [] map e = absurd cc
  last_is_removed_by_key z (x ∷ []) map e = let is : x ≡ z = cc in rw (is, front_same (bytes z)) refl
  last_is_removed_by_key z (x ∷ y ∷ xs) map e =
      let apart : Precedes (bytes x) (bytes z) = last_each (λ w. Precedes (bytes x) (bytes w)) (y ∷ xs) z map.0 e in
      rw (same_related (bytes z) (bytes x) (related_sym (bytes z) (bytes x) ∙ apart.1)) (ap (λ l. x ∷ l) (last_is_removed_by_key z (y ∷ xs) map.1 e))

  replacement_is_undone : (new : A) (pairs : List A) → related_to bytes (bytes new) pairs ≡ [] →
      remove_key bytes (bytes new) (replace_key bytes new pairs) ≡ pairs
  replacement_is_undone new pairs none =
      let stays = all_stay (bytes new) pairs (none_passes (λ x. are_related (bytes new) (bytes x)) pairs none) in
      filter_add bytes (λ x. not (are_same (bytes new) (bytes x))) new (remove_key bytes (bytes new) pairs) (rw (front_same (bytes new)) refl)
      ∙ ap (remove_key bytes (bytes new)) stays ∙ stays

  -- ---- what replies report

  as_reply : (xs : List A) → length xs ≤ 1 → xs ≡ cons_option (first_of xs) []
  as_reply [] h = refl
  as_reply (x ∷ []) h = refl
  as_reply (x ∷ y ∷ xs) h = absurd (omega arith)

  pub removal_tells : RemovalTells bytes
  removal_tells key pairs map = as_reply (with_key bytes key pairs) (keys_are_once key pairs map)

  went_tells : (gone : List A) → Tells (only_or_count gone) gone
  went_tells [] = refl
  went_tells (x ∷ []) = refl
  went_tells (x ∷ y ∷ gone) = (refl, omega arith)

  pub removal_counts : RemovalCounts bytes
  removal_counts key pairs = length-filter_both (λ x. not (are_same key (bytes x))) (λ x. are_same key (bytes x)) (λ x. double (are_same key (bytes x))) pairs

  pub replacement_counts : (new : A) (pairs : List A) → length (replace_key bytes new pairs) + length (with_key bytes (bytes new) pairs) ≡ length pairs + 1
  replacement_counts new pairs =
      let more = length-add bytes new (remove_key bytes (bytes new) pairs) in let rest = removal_counts (bytes new) pairs in omega arith

  related_replacement_counts : (new : A) (pairs : List A) →
      length (replace_related bytes new pairs) + length (related_to bytes (bytes new) pairs) ≡ length pairs + 1
  related_replacement_counts new pairs =
      let more = length-add bytes new (remove_related bytes (bytes new) pairs) in
      let rest = length-filter_both (λ x. not (are_related (bytes new) (bytes x))) (λ x. are_related (bytes new) (bytes x))
      (λ x. double (are_related (bytes new) (bytes x))) pairs in omega arith

-- ---- puts and overwrites of pairs of key and value

module _ {K V : Type 0} (bytes : K → List ℕ) where
  abbrev Of : K × V → List ℕ
  Of = of_key bytes

  -- what is stored for a new pair
  abbrev stored : K × V → List (K × V) → K × V
  stored new pairs = stored_for Of new pairs

  alike : (new : K × V) (pairs : List (K × V)) → bytes (stored new pairs).0 ≡ bytes new.0
  alike new pairs = stored_bytes bytes new pairs

  -- an overwrite of a map replaces all with related keys by what is stored
  overwrite_is : (new : K × V) (pairs : List (K × V)) → IsMap Of pairs → overwrite Of new pairs ≡ replace_related Of (stored new pairs) pairs
  overwrite_is new pairs map = go (first_of (with_key Of (bytes new.0) pairs)) refl
    where
      go : (o : Option (K × V)) → first_of (with_key Of (bytes new.0) pairs) ≡ o → overwrite Of new pairs ≡ replace_related Of (stored new pairs) pairs
      go None e = overwrite-new Of new pairs e ∙ ap (λ x. replace_related Of x pairs) (sym (stored_for-new Of new pairs e))
      go (Some old) e =
          let has = has_is_stored Of new pairs ∙ ap is_some e in
          let free = stored_is_free Of (bytes new.0) pairs map has in
          let rest = (same_rest Of new (bytes new.0) pairs (free_unrelated Of new (bytes new.0) pairs free)).0 in
          overwrite-put Of new pairs has
          ∙ ap (add_in_order Of (stored new pairs))
          (ap (λ k. remove_key Of k pairs) (alike new pairs) ∙ sym rest ∙ ap (λ k. remove_related Of k pairs) (sym (alike new pairs)))

  stays_map : (change : Change (K × V)) (pairs : List (K × V)) → IsMap Of pairs → IsMap Of (changed Of change pairs)
  stays_map (put_pair new) pairs map = go (is_conflict Of (bytes new.0) pairs) refl
    where
      go : (t : Bool) → is_conflict Of (bytes new.0) pairs ≡ t → IsMap Of (cond t pairs (put Of new pairs))
      go true e = map
      go false e = replaced_map Of (stored new pairs) pairs map (ap (λ k. is_conflict Of k pairs) (alike new pairs) ∙ e)
  stays_map (overwrite_with new) pairs map = subst (IsMap Of) (sym (overwrite_is new pairs map)) (related_replaced_map Of (stored new pairs) pairs map)
  stays_map (remove_at key) pairs map = Pairwise-filter (λ x y. Precedes (bytes x.0) (bytes y.0)) (λ x. not (are_same key (bytes x.0))) pairs map
  stays_map remove_first [] map = tt
  stays_map remove_first (x ∷ pairs) map = map.1
  stays_map remove_last pairs map = Pairwise-without_last (λ x y. Precedes (bytes x.0) (bytes y.0)) pairs map

  pub maps_stay_maps : MapsStayMaps V bytes
  maps_stay_maps [] pairs map = map
  maps_stay_maps (change ∷ changes) pairs map = maps_stay_maps changes (changed Of change pairs) (stays_map change pairs map)

  pub put_is_found : PutIsFound V bytes
  put_is_found key new pairs =
      replaced_is_found Of key (stored new pairs) pairs
      ∙ ap (λ k. cond (are_same key k) (stored new pairs ∷ []) (with_key Of key pairs)) (alike new pairs)

  pub overwrite_is_found : OverwriteIsFound V bytes
  overwrite_is_found key new pairs map = ap (with_key Of key) (overwrite_is new pairs map) ∙ related_replaced_is_found Of key (stored new pairs) pairs
      ∙ ap (λ k. cond (are_same key k) (stored new pairs ∷ []) (cond (are_related key k) [] (with_key Of key pairs))) (alike new pairs)

  pub put_is_undone : PutIsUndone V bytes
  put_is_undone new pairs none =
      ap (λ k. remove_key Of k (put Of new pairs)) (sym (alike new pairs))
      ∙ replacement_is_undone Of (stored new pairs) pairs (ap (λ k. related_to Of k pairs) (alike new pairs) ∙ none)

  -- ---- which key is stored

  pub stored_key_stays : StoredKeyStays V bytes
  stored_key_stays new old pairs is = stored_for-old Of new pairs old (ap first_of is)

  pub new_key_comes : NewKeyComes V bytes
  new_key_comes new pairs is = stored_for-new Of new pairs (ap first_of is)

  -- once it is put, what is stored for the pair is what was stored
  pub stored_again : (new : K × V) (pairs : List (K × V)) → stored new (put Of new pairs) ≡ stored new pairs
  stored_again new pairs =
      let found : with_key Of (bytes new.0) (put Of new pairs) ≡ stored new pairs ∷ [] =
      put_is_found (bytes new.0) new pairs ∙ ap (λ b. cond b (stored new pairs ∷ []) (with_key Of (bytes new.0) pairs)) (front_same (bytes new.0)) in
      stored_key_stays new (stored new pairs) (put Of new pairs) found ∙ ap (λ v. ((stored new pairs).0, v)) (sym (stored_value bytes new pairs))

  -- a pair with a stored key replaces the stored one
  keys_stay : (new : K × V) (pairs : List (K × V)) (old : K × V) → IsMap Of pairs → first_of (with_key Of (bytes new.0) pairs) ≡ Some old → new.0 ≡ old.0 →
      map (λ x. x.0) (replace_key Of new pairs) ≡ map (λ x. x.0) pairs
  keys_stay new [] old ordered e same = absurd cc
  keys_stay new (x ∷ xs) old ordered e same = go (are_same (bytes new.0) (bytes x.0)) refl e (λ f. keys_stay new xs old ordered.1 f same)
    where
      go : (b : Bool) → are_same (bytes new.0) (bytes x.0) ≡ b →
          first_of (cond b (x ∷ with_key Of (bytes new.0) xs) (with_key Of (bytes new.0) xs)) ≡ Some old →
          (first_of (with_key Of (bytes new.0) xs) ≡ Some old → map (λ x. x.0) (replace_key Of new xs) ≡ map (λ x. x.0) xs) →
          map (λ x. x.0) (add_in_order Of new (cond (not b) (x ∷ remove_key Of (bytes new.0) xs) (remove_key Of (bytes new.0) xs))) ≡ x.0 ∷ map (λ x. x.0) xs
      go true is f ih =
          let here : x ≡ old = cc in
          let after : Each (λ y. Precedes (bytes new.0) (bytes y.0)) xs =
          subst (λ k. Each (λ y. Precedes k (bytes y.0)) xs) (same_equal (bytes new.0) (bytes x.0) is) ordered.0 in
          let rest = all_stay Of (bytes new.0) xs (after_is_unrelated Of new xs after) in
          ap (λ l. map (λ x. x.0) (add_in_order Of new l)) rest ∙ ap (map (λ x. x.0)) (add_in_order_first Of new xs after)
          ∙ ap (λ k. k ∷ map (λ x. x.0) xs) (same ∙ ap (λ z. z.0) (sym here))
      go false is f ih =
          let before : Precedes (bytes x.0) (bytes old.0) =
          first_has (λ y. Precedes (bytes x.0) (bytes y.0)) (with_key Of (bytes new.0) xs) old
          (Each-filter (λ y. Precedes (bytes x.0) (bytes y.0)) (λ y. are_same (bytes new.0) (bytes y.0)) xs ordered.0) f in
          rw (precedes_apart (bytes x.0) (bytes new.0) (subst (λ k. Precedes (bytes x.0) (bytes k)) (sym same) before)) (ap (λ l. x.0 ∷ l) (ih f))

  pub put_keeps_keys : PutKeepsKeys V bytes
  put_keeps_keys new pairs ordered has = go (first_of (with_key Of (bytes new.0) pairs)) refl (sym (has_is_stored Of new pairs) ∙ has)
    where
      go : (o : Option (K × V)) → first_of (with_key Of (bytes new.0) pairs) ≡ o → is_some (first_of (with_key Of (bytes new.0) pairs)) ≡ true →
          map (λ x. x.0) (put Of new pairs) ≡ map (λ x. x.0) pairs
      go None e h = absurd (false≢true (ap is_some (sym e) ∙ h))
      go (Some old) e h =
          let is = stored_for-old Of new pairs old e in
          keys_stay (stored new pairs) pairs old ordered (ap (λ k. first_of (with_key Of k pairs)) (alike new pairs) ∙ e) (ap (λ z. z.0) is)

  pub overwrite_of_key_is_put : OverwriteOfKeyIsPut V bytes
  overwrite_of_key_is_put new pairs has = (overwrite-put Of new pairs has, overwrite_reply-put Of new pairs has)

  -- ---- what replies report

  handed : (f : K × V → K × V) (xs : List (K × V)) → length xs ≤ 1 → map f xs ≡ cons_option (option_map f (first_of xs)) []
  handed f [] h = refl
  handed f (x ∷ []) h = refl
  handed f (x ∷ y ∷ xs) h = absurd (omega arith)

  pub put_tells : PutTells V bytes
  put_tells new pairs map = handed (λ old. (new.0, old.1)) (with_key Of (bytes new.0) pairs) (keys_are_once Of (bytes new.0) pairs map)

  pub overwrite_tells : OverwriteTells V bytes
  overwrite_tells new pairs none = go (first_of (with_key Of (bytes new.0) pairs)) refl (sym (has_is_stored Of new pairs) ∙ none)
    where
      go : (o : Option (K × V)) → first_of (with_key Of (bytes new.0) pairs) ≡ o → is_some (first_of (with_key Of (bytes new.0) pairs)) ≡ false →
          Tells (overwrite_reply Of new pairs) (related_to Of (bytes new.0) pairs)
      go None e h = subst (λ told. Tells told (related_to Of (bytes new.0) pairs)) (sym (overwrite_reply-new Of new pairs e))
          (went_tells Of (related_to Of (bytes new.0) pairs))
      go (Some old) e h = absurd (true≢false (ap is_some (sym e) ∙ h))

  pub put_counts : PutCounts V bytes
  put_counts new pairs =
      ap (λ k. length (put Of new pairs) + length (with_key Of k pairs)) (sym (alike new pairs))
      ∙ replacement_counts Of (stored new pairs) pairs

  pub overwrite_counts : OverwriteCounts V bytes
  overwrite_counts new pairs map =
      ap (λ xs. length xs + length (related_to Of (bytes new.0) pairs)) (overwrite_is new pairs map)
      ∙ ap (λ k. length (replace_related Of (stored new pairs) pairs) + length (related_to Of k pairs)) (sym (alike new pairs))
      ∙ related_replacement_counts Of (stored new pairs) pairs
