-- Another value under a key, and puts of it.
use Rattle.std.proofs.Common.{◌≡◌, ℕ, List, [], ◌∷◌, Bool, Option, Some, None, refl, ap, sym, ◌∙◌, subst, true, false, not, is_some, unwrap_or}
use Rattle.std.proofs.lemmas.Bool.{false≢true}
use Rattle.std.proofs.lemmas.List.{map-append}
use Rattle.std.specs.List.{AllByRecursion as Each}
use Rattle.art_model.specs.Prelude.{Precedes, are_same, is_before, IsMap, add_in_order, first_of, of_key, put, remove_key, replace_key, with_key}
use Rattle.art_model.proofs.pairs.Between.{IsLocal, add_in_order_first}
use Rattle.art_model.proofs.lists.Filters.{Each-filter, filter_passes}
use Rattle.art_model.proofs.keys.Keys.{front_same, precedes_apart, related_sym, same_equal, same_related}
use Rattle.art_model.proofs.pairs.Puts.{has_is_stored, put-new, put-old}
use Rattle.art_changing.specs.MapAnswers.{value_at, with_value_at}
use Rattle.art_map.specs.MapChanges.{put_new}
use Rattle.art_map.proofs.CallerLaws.{value_here}

-- what holds of all holds of the first
first_each : {A : Type 0} (P : A → Type 0) (xs : List A) (x : A) → first_of xs ≡ Some x → Each P xs → P x
first_each P [] x e h = absurd cc
first_each P (y ∷ ys) x e h = let same : y ≡ x = cc in subst P same h.0

module _ {K V : Type 0} (bytes : K → List ℕ) (key : List ℕ) (value : V) where
  low_stay : (xs : List (K × V)) → Each (λ x. Precedes (bytes x.0) key) xs → with_value_at bytes key value xs ≡ xs
  low_stay [] h = refl
  low_stay (x ∷ xs) h = rw (same_related key (bytes x.0) (related_sym key (bytes x.0) ∙ h.0.1)) (ap (λ ys. x ∷ ys) (low_stay xs h.1))

  high_stay : (xs : List (K × V)) → Each (λ x. Precedes key (bytes x.0)) xs → with_value_at bytes key value xs ≡ xs
  high_stay [] h = refl
  high_stay (x ∷ xs) h = rw (same_related key (bytes x.0) h.0.1) (ap (λ ys. x ∷ ys) (high_stay xs h.1))

  high_kept : (xs : List (K × V)) → Each (λ x. Precedes key (bytes x.0)) xs → remove_key (of_key bytes) key xs ≡ xs
  high_kept [] h = refl
  high_kept (x ∷ xs) h = rw (same_related key (bytes x.0) h.0.1) (ap (λ ys. x ∷ ys) (high_kept xs h.1))

  -- a new value changes only the pair of its key
  pub written_between : IsLocal (of_key bytes) key (with_value_at bytes key value)
  written_between xs ys zs low high = simp (map-append, low_stay xs low, high_stay zs high)

  -- if a key is stored, its pair has it
  pub has_the_key : (pairs : List (K × V)) (x : K × V) → with_key (of_key bytes) key pairs ≡ x ∷ [] → are_same key (bytes x.0) ≡ true
  has_the_key pairs x only = (subst (Each (λ y. are_same key (bytes y.0) ≡ true)) only (filter_passes (λ y. are_same key (bytes y.0)) pairs)).0

module _ {K V : Type 0} (bytes : K → List ℕ) (value : V) where
  -- a put of an equal key gives it another value
  stored_written : (pairs : List (K × V)) (x : K × V) → IsMap (of_key bytes) pairs → first_of (with_key (of_key bytes) (bytes x.0) pairs) ≡ Some x →
      replace_key (of_key bytes) (x.0, value) pairs ≡ with_value_at bytes (bytes x.0) value pairs
  stored_written [] x rising e = absurd cc
  stored_written (y ∷ ys) x rising e = go (stored_written ys x rising.1) (are_same (bytes x.0) (bytes y.0)) refl e
    where
      key : List ℕ
      key = bytes x.0

      new : K × V
      new = (x.0, value)

      go : (first_of (with_key (of_key bytes) key ys) ≡ Some x → replace_key (of_key bytes) new ys ≡ with_value_at bytes key value ys) →
          (b : Bool) → are_same key (bytes y.0) ≡ b →
          first_of (with_key (of_key bytes) key (y ∷ ys)) ≡ Some x → replace_key (of_key bytes) new (y ∷ ys) ≡ with_value_at bytes key value (y ∷ ys)
      go ih true is found =
          let met : Some y ≡ Some x = rw is at found in
          let same : y ≡ x = cc in
          let after : Each (λ z. Precedes key (bytes z.0)) ys = subst (λ z. Each (λ w. Precedes (bytes z.0) (bytes w.0)) ys) same rising.0 in
          rw (is, high_kept bytes key value ys after, high_stay bytes key value ys after)
          (add_in_order_first (of_key bytes) new ys after ∙ ap (λ z. (z.0, value) ∷ ys) (sym same))
      go ih false is found =
          let rest : first_of (with_key (of_key bytes) key ys) ≡ Some x = rw is at found in
          let below = first_each (λ z. Precedes (bytes y.0) (bytes z.0)) _ x rest
          (Each-filter (λ z. Precedes (bytes y.0) (bytes z.0)) (λ z. are_same key (bytes z.0)) ys rising.0) in
          rw (is, precedes_apart (bytes y.0) key below) (ap (λ zs. y ∷ zs) (ih rest))

  -- a new pair gets another value in its place
  added_written : (k : K) (v : V) (ys : List (K × V)) → Each (λ y. not (are_same (bytes k) (bytes y.0)) ≡ true) ys →
      with_value_at bytes (bytes k) value (add_in_order (of_key bytes) (k, v) ys) ≡ add_in_order (of_key bytes) (k, value) ys
  added_written k v [] h = rw (front_same (bytes k)) refl
  added_written k v (y ∷ ys) h = go (added_written k v ys h.1) (is_before (bytes k) (bytes y.0)) (are_same (bytes k) (bytes y.0)) refl refl h.0
    where
      stay : (zs : List (K × V)) → Each (λ z. not (are_same (bytes k) (bytes z.0)) ≡ true) zs → with_value_at bytes (bytes k) value zs ≡ zs
      stay [] g = refl
      stay (z ∷ zs) g = by_test (stay zs g.1) (are_same (bytes k) (bytes z.0)) refl g.0
        where
          by_test : with_value_at bytes (bytes k) value zs ≡ zs → (b : Bool) → are_same (bytes k) (bytes z.0) ≡ b →
              not (are_same (bytes k) (bytes z.0)) ≡ true →
              with_value_at bytes (bytes k) value (z ∷ zs) ≡ z ∷ zs
          by_test ih true is off = absurd (false≢true (rw is at off))
          by_test ih false is off = rw is (ap (λ ws. z ∷ ws) ih)

      go : with_value_at bytes (bytes k) value (add_in_order (of_key bytes) (k, v) ys) ≡ add_in_order (of_key bytes) (k, value) ys →
          (first same : Bool) → is_before (bytes k) (bytes y.0) ≡ first →
          are_same (bytes k) (bytes y.0) ≡ same → not (are_same (bytes k) (bytes y.0)) ≡ true →
          with_value_at bytes (bytes k) value (add_in_order (of_key bytes) (k, v) (y ∷ ys)) ≡ add_in_order (of_key bytes) (k, value) (y ∷ ys)
      go ih first true before is off = absurd (false≢true (rw is at off))
      go ih true false before is off = rw (before, front_same (bytes k), is) (ap (λ zs. (k, value) ∷ y ∷ zs) (stay ys h.1))
      go ih false false before is off = rw (before, is) (ap (λ zs. y ∷ zs) ih)

module _ {K V : Type 0} (bytes : K → List ℕ) (key : K) (pairs : List (K × V)) (rising : IsMap (of_key bytes) pairs) where
  abbrev found : Option (K × V)
  found = first_of (with_key (of_key bytes) (bytes key) pairs)

  found_has : (x : K × V) → found ≡ Some x → are_same (bytes key) (bytes x.0) ≡ true
  found_has x some = first_each (λ y. are_same (bytes key) (bytes y.0) ≡ true) (with_key (of_key bytes) (bytes key) pairs) x some
      (filter_passes (λ y. are_same (bytes key) (bytes y.0)) pairs)

  -- to put a pair with a new key and then give it another value is to put it with that value
  pub new_written : (first value : V) → with_value_at bytes (bytes key) value (put_new bytes (key, first) pairs) ≡ put (of_key bytes) (key, value) pairs
  new_written first value = go found refl
    where
      go : (o : Option (K × V)) → found ≡ o → with_value_at bytes (bytes key) value (put_new bytes (key, first) pairs) ≡ put (of_key bytes) (key, value) pairs
      go None none =
          rw (has_is_stored (of_key bytes) (key, first) pairs ∙ ap is_some none)
          (ap (with_value_at bytes (bytes key) value) (put-new (of_key bytes) (key, first) pairs none)
          ∙ added_written bytes value key first (remove_key (of_key bytes) (bytes key) pairs)
          (filter_passes (λ x. not (are_same (bytes key) (bytes x.0))) pairs)
          ∙ sym (put-new (of_key bytes) (key, value) pairs none))
      go (Some x) some =
          let same : bytes x.0 ≡ bytes key = same_equal (bytes key) (bytes x.0) (found_has x some) in
          rw (has_is_stored (of_key bytes) (key, first) pairs ∙ ap is_some some) (ap (λ k. with_value_at bytes k value pairs) (sym same)
          ∙ sym (stored_written bytes value pairs x rising (ap (λ k. first_of (with_key (of_key bytes) k pairs)) same ∙ some))
          ∙ sym (put-old (of_key bytes) (key, value) pairs x some))

  -- its value is the stored one, or else its own
  pub new_value : (value : V) → value_at bytes (bytes key) (put_new bytes (key, value) pairs) ≡ Some (unwrap_or (value_at bytes (bytes key) pairs) value)
  new_value value = go found refl
    where
      go : (o : Option (K × V)) → found ≡ o → value_at bytes (bytes key) (put_new bytes (key, value) pairs)
          ≡ Some (unwrap_or (value_at bytes (bytes key) pairs) value)
      go None none = rw (has_is_stored (of_key bytes) (key, value) pairs ∙ ap is_some none, none) (value_here bytes key value pairs)
      go (Some x) some = rw (has_is_stored (of_key bytes) (key, value) pairs ∙ ap is_some some, some) refl
