-- What a put and an overwrite are, where it is known whether an equal key is stored.
use Rattle.std.proofs.Common.{◌≡◌, ℕ, List, [], ◌∷◌, ◌++◌, append-nil, filter, Option, Some, None, Bool, true, false, cond, is_some, refl, ap, sym, ◌∙◌, option_map}
use Rattle.std.specs.List.{AllByRecursion as Each, list_any}
use Rattle.art_model.specs.Prelude.{Precedes, are_same, add_in_order, first_of, only_or_count, with_key, has_key, remove_key, related_to, replace_key, replace_related, stored_for, put, put_reply, overwrite, overwrite_reply, of_key}
use Rattle.art_model.proofs.lists.Filters.{filter_passes}
use Rattle.art_model.proofs.keys.Keys.{related_sym, same_equal, same_related}
use Rattle.art_model.proofs.pairs.Between.{add_in_order-after}

module _ {A : Type 0} where
  -- whether any passes, by the first that does
  pub any_is_first : (test : A → Bool) (xs : List A) → list_any test xs ≡ is_some (first_of (filter test xs))
  any_is_first test [] = refl
  any_is_first test (x ∷ xs) = go (any_is_first test xs) (test x) refl
    where
      go : list_any test xs ≡ is_some (first_of (filter test xs)) → (b : Bool) → test x ≡ b → list_any test (x ∷ xs) ≡ is_some (first_of (filter test (x ∷ xs)))
      go ih true e = rw e refl
      go ih false e = rw e ih

  -- what holds of all holds of the first
  pub first_has : (P : A → Type 0) (xs : List A) (x : A) → Each P xs → first_of xs ≡ Some x → P x
  first_has P [] x h e = absurd cc
  first_has P (y ∷ xs) x h e = let is : y ≡ x = cc in rw (← is) h.0

  -- where none is first there is none
  pub first_none : (xs : List A) → first_of xs ≡ None → xs ≡ []
  first_none [] e = refl
  first_none (x ∷ xs) e = absurd cc

module _ {K V : Type 0} (bytes : K × V → List ℕ) (new : K × V) (pairs : List (K × V)) where
  abbrev Stored : Option (K × V)
  Stored = first_of (with_key bytes (bytes new) pairs)

  pub has_is_stored : has_key bytes (bytes new) pairs ≡ is_some Stored
  has_is_stored = any_is_first (λ x. are_same (bytes new) (bytes x)) pairs

  -- ---- where no equal key is stored
  module _ (none : Stored ≡ None) where
    pub stored_for-new : stored_for bytes new pairs ≡ new
    stored_for-new = ap (λ (o : Option (K × V)). elim o as (λ _. K × V) [ None ↦ new | Some old ↦ (old.0, new.1) ]) none

    pub put-new : put bytes new pairs ≡ replace_key bytes new pairs
    put-new = ap (λ x. replace_key bytes x pairs) stored_for-new

    pub put_reply-new : put_reply bytes new pairs ≡ None
    put_reply-new = ap (option_map (λ old. (new.0, old.1))) none

    has_key-new : has_key bytes (bytes new) pairs ≡ false
    has_key-new = has_is_stored ∙ ap is_some none

    pub overwrite-new : overwrite bytes new pairs ≡ replace_related bytes new pairs
    overwrite-new = ap (λ b. cond b (put bytes new pairs) (replace_related bytes new pairs)) has_key-new

    pub overwrite_reply-new : overwrite_reply bytes new pairs ≡ only_or_count (related_to bytes (bytes new) pairs)
    overwrite_reply-new = ap (λ b. cond b (put_reply bytes new pairs, 0) (only_or_count (related_to bytes (bytes new) pairs))) has_key-new

  -- ---- where one is
  module _ (old : K × V) (some : Stored ≡ Some old) where
    pub stored_for-old : stored_for bytes new pairs ≡ (old.0, new.1)
    stored_for-old = ap (λ (o : Option (K × V)). elim o as (λ _. K × V) [ None ↦ new | Some old ↦ (old.0, new.1) ]) some

    pub put-old : put bytes new pairs ≡ replace_key bytes (old.0, new.1) pairs
    put-old = ap (λ x. replace_key bytes x pairs) stored_for-old

    pub put_reply-old : put_reply bytes new pairs ≡ Some (new.0, old.1)
    put_reply-old = ap (option_map (λ old. (new.0, old.1))) some

  -- ---- either way
  module _ (has : has_key bytes (bytes new) pairs ≡ true) where
    pub overwrite-put : overwrite bytes new pairs ≡ put bytes new pairs
    overwrite-put = ap (λ b. cond b (put bytes new pairs) (replace_related bytes new pairs)) has

    pub overwrite_reply-put : overwrite_reply bytes new pairs ≡ (put_reply bytes new pairs, 0)
    overwrite_reply-put = ap (λ b. cond b (put_reply bytes new pairs, 0) (only_or_count (related_to bytes (bytes new) pairs))) has

module _ {K V : Type 0} (bytes : K → List ℕ) where
  all_equal : (key : List ℕ) (xs : List (K × V)) → Each (λ x. are_same key (bytes x.0) ≡ true) xs → Each (λ x. bytes x.0 ≡ key) xs
  all_equal key [] h = tt
  all_equal key (x ∷ xs) h = (same_equal key (bytes x.0) h.0, all_equal key xs h.1)

  -- the key that is stored for a new pair has its bytes
  pub stored_bytes : (new : K × V) (pairs : List (K × V)) → bytes (stored_for (of_key bytes) new pairs).0 ≡ bytes new.0
  stored_bytes new pairs = go (first_of (with_key (of_key bytes) (bytes new.0) pairs)) refl
    where
      go : (o : Option (K × V)) → first_of (with_key (of_key bytes) (bytes new.0) pairs) ≡ o → bytes (stored_for (of_key bytes) new pairs).0 ≡ bytes new.0
      go None e = ap (λ x. bytes x.0) (stored_for-new (of_key bytes) new pairs e)
      go (Some old) e = ap (λ x. bytes x.0) (stored_for-old (of_key bytes) new pairs old e)
          ∙ first_has (λ x. bytes x.0 ≡ bytes new.0) (with_key (of_key bytes) (bytes new.0) pairs) old
          (all_equal (bytes new.0) (with_key (of_key bytes) (bytes new.0) pairs) (filter_passes (λ x. are_same (bytes new.0) (bytes x.0)) pairs)) e

  -- and its value
  pub stored_value : (new : K × V) (pairs : List (K × V)) → (stored_for (of_key bytes) new pairs).1 ≡ new.1
  stored_value new pairs = go (first_of (with_key (of_key bytes) (bytes new.0) pairs)) refl
    where
      go : (o : Option (K × V)) → first_of (with_key (of_key bytes) (bytes new.0) pairs) ≡ o → (stored_for (of_key bytes) new pairs).1 ≡ new.1
      go None e = ap (λ x. x.1) (stored_for-new (of_key bytes) new pairs e)
      go (Some old) e = ap (λ x. x.1) (stored_for-old (of_key bytes) new pairs old e)

module _ {K V : Type 0} (bytes : K → List ℕ) where
  -- no pair before a key has that key
  none_same : (x : K × V) (l : List (K × V)) → Each (λ y. Precedes (bytes y.0) (bytes x.0)) l →
      (with_key (of_key bytes) (bytes x.0) l ≡ []) × (remove_key (of_key bytes) (bytes x.0) l ≡ l)
  none_same x [] h = (refl, refl)
  none_same x (y ∷ l) h =
      let (none, all) = none_same x l h.1 in
      let off : are_same (bytes x.0) (bytes y.0) ≡ false = same_related (bytes x.0) (bytes y.0) (related_sym (bytes x.0) (bytes y.0) ∙ h.0.1) in
      (rw off none, rw off (ap (λ zs. y ∷ zs) all))

  -- a pair that is greater than all others is put at the end
  pub put_end : (x : K × V) (l : List (K × V)) → Each (λ y. Precedes (bytes y.0) (bytes x.0)) l → put (of_key bytes) x l ≡ l ++ x ∷ []
  put_end x l h =
      let (none, all) = none_same x l h in
      put-new (of_key bytes) x l (ap first_of none) ∙ ap (add_in_order (of_key bytes) x) (all ∙ sym (append-nil l)) ∙
      add_in_order-after (of_key bytes) x l [] h
