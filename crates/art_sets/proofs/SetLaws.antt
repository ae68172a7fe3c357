-- What a map's calls do to the keys alone.
use Rattle.std.proofs.Common.{◌≡◌, List, [], ◌∷◌, Bool, Option, Some, None, ℕ, suc, ◌||◌, ◌&&◌, cond, filter, leb, length, refl, ap, sym, ◌∙◌, true, false, not, is_some, option_map}
use Rattle.std.proofs.lemmas.Bool.{false≢true}
use Rattle.std.specs.List.{AllByRecursion as Each}
use Rattle.std.specs.declared.ops.Bound.{Bound}
use Rattle.art_model.specs.Prelude.{Precedes, are_related, are_same, is_before, is_front, IsMap, add_in_order, first_of, has_key, is_conflict, last_of, of_key, put, put_reply, remove_key, remove_reply, replace_key, with_key, without_first, without_last, below, between, texts_in_front, text_of}
use Rattle.art_model.proofs.pairs.Puts.{any_is_first, has_is_stored, put-new}
use Rattle.art_ranges.specs.ShortTexts.{texts_from}
use Rattle.art_changing.specs.declared.insert.MapInsertError.{MapInsertError}
use Rattle.art_changing.specs.declared.insert.MapInsertError.TheVariants.{Conflict, Memory}
use Rattle.art_changing.specs.MapAnswers.{IsRefusalOf, with_value_at}
use Rattle.art_map.specs.MapChanges.{put_new}
use Rattle.art_iterating.specs.MapItems.{keys_of}
use Rattle.art_sets.specs.SetKeys.{IsKeyRefusal, add_key, as_pairs, key_error}
use Rattle.art_map.proofs.ValueLaws.{new_written}

module _ {K V : Type 0} where
  pub keys_len : (pairs : List (K × V)) → length (keys_of pairs) ≡ length pairs
  keys_len [] = refl
  keys_len (x ∷ xs) = ap suc (keys_len xs)

  pub keys_first : (pairs : List (K × V)) → first_of (keys_of pairs) ≡ option_map (λ x. x.0) (first_of pairs)
  keys_first [] = refl
  keys_first (x ∷ xs) = refl

  pub keys_last : (pairs : List (K × V)) → last_of (keys_of pairs) ≡ option_map (λ x. x.0) (last_of pairs)
  keys_last [] = refl
  keys_last (x ∷ []) = refl
  keys_last (x ∷ y ∷ xs) = keys_last (y ∷ xs)

  keys_without_first : (pairs : List (K × V)) → keys_of (without_first pairs) ≡ without_first (keys_of pairs)
  keys_without_first [] = refl
  keys_without_first (x ∷ xs) = refl

  keys_without_last : (pairs : List (K × V)) → keys_of (without_last pairs) ≡ without_last (keys_of pairs)
  keys_without_last [] = refl
  keys_without_last (x ∷ []) = refl
  keys_without_last (x ∷ y ∷ xs) = ap (λ ks. x.0 ∷ ks) (keys_without_last (y ∷ xs))

module _ {K V : Type 0} (pairs : List (K × V)) where
  pub without_last_keys : without_last (keys_of pairs) ≡ keys_of (without_last pairs)
  without_last_keys = sym (keys_without_last pairs)

  pub without_first_keys : without_first (keys_of pairs) ≡ keys_of (without_first pairs)
  without_first_keys = sym (keys_without_first pairs)

-- a filter of pairs by their keys is one of the keys
pub keys_where : {K V : Type 0} (test : K → Bool) (pairs : List (K × V)) → filter test (keys_of pairs) ≡ keys_of (filter (λ x. test x.0) pairs)
keys_where test [] = refl
keys_where test (x ∷ xs) = go (keys_where test xs) (test x.0)
  where
    go : filter test (keys_of xs) ≡ keys_of (filter (λ y. test y.0) xs) → (b : Bool) →
        cond b (x.0 ∷ filter test (keys_of xs)) (filter test (keys_of xs)) ≡ keys_of (cond b (x ∷ filter (λ y. test y.0) xs) (filter (λ y. test y.0) xs))
    go e true = ap (λ zs. x.0 ∷ zs) e
    go e false = e

-- what holds of each key holds of the key of each pair
pub keys_each : {K V : Type 0} (Q : K → Type 0) (pairs : List (K × V)) → Each Q (keys_of pairs) → Each (λ x. Q x.0) pairs
keys_each Q [] h = tt
keys_each Q (x ∷ xs) h = (h.0, keys_each Q xs h.1)

-- the longest text of the keys is that of the pairs
pub keys_longest : {K V : Type 0} (bytes : K → List ℕ) (query : List ℕ) (pairs : List (K × V)) →
    last_of (texts_in_front bytes query (keys_of pairs)) ≡ option_map (λ x. x.0) (last_of (texts_in_front (of_key bytes) query pairs))
keys_longest bytes query pairs = ap last_of (keys_where (λ k. is_front (text_of bytes k) query) pairs) ∙ keys_last (texts_in_front (of_key bytes) query pairs)

-- and so is the shortest one of at least so many bytes
pub keys_shortest : {K V : Type 0} (bytes : K → List ℕ) (query : List ℕ) (at_least : ℕ) (pairs : List (K × V)) →
    first_of (texts_from bytes query at_least (keys_of pairs)) ≡ option_map (λ x. x.0) (first_of (texts_from (of_key bytes) query at_least pairs))
keys_shortest {K} bytes query at_least pairs =
    let is_long : K → Bool = λ k. leb at_least (length (text_of bytes k)) in
    ap (λ ks. first_of (filter is_long ks)) (keys_where (λ k. is_front (text_of bytes k) query) pairs)
    ∙ ap first_of (keys_where is_long (texts_in_front (of_key bytes) query pairs))
    ∙ keys_first (texts_from (of_key bytes) query at_least pairs)

pub flipped : (b d : Bool) → b ≡ not d → d ≡ not b
flipped b true e = rw e refl
flipped b false e = rw e refl

-- the pairs of a set are its keys with no value
pub no_values : {K : Type 0} (pairs : List (K × Unit {0})) → as_pairs (keys_of pairs) ≡ pairs
no_values [] = refl
no_values (x ∷ xs) = ap (λ ys. x ∷ ys) (no_values xs)

module _ {K : Type 0} (bytes : K → List ℕ) where
  none_removed : (key : List ℕ) (keys : List K) → has_key bytes key keys ≡ false → remove_key bytes key keys ≡ keys
  none_removed key [] e = refl
  none_removed key (k ∷ ks) e = go (none_removed key ks) (are_same key (bytes k)) refl
    where
      go : (has_key bytes key ks ≡ false → remove_key bytes key ks ≡ ks) → (b : Bool) → are_same key (bytes k) ≡ b → remove_key bytes key (k ∷ ks) ≡ k ∷ ks
      go ih true is = absurd (false≢true (sym e ∙ ap (λ b. b || has_key bytes key ks) is))
      go ih false is = rw is (ap (λ zs. k ∷ zs) (ih (sym (ap (λ b. b || has_key bytes key ks) is) ∙ e)))

module _ {K V : Type 0} (bytes : K → List ℕ) where
  pub keys_rise : (pairs : List (K × V)) → IsMap (of_key bytes) pairs → IsMap bytes (keys_of pairs)
  keys_rise [] h = tt
  keys_rise (x ∷ xs) h = (go xs h.0, keys_rise xs h.1)
    where
      go : (ys : List (K × V)) → Each (λ y. Precedes (bytes x.0) (bytes y.0)) ys → Each (λ k. Precedes (bytes x.0) (bytes k)) (keys_of ys)
      go [] g = tt
      go (y ∷ ys) g = (g.0, go ys g.1)

  pub keys_have : (key : List ℕ) (pairs : List (K × V)) → has_key bytes key (keys_of pairs) ≡ has_key (of_key bytes) key pairs
  keys_have key [] = refl
  keys_have key (x ∷ xs) = ap (λ b. are_same key (bytes x.0) || b) (keys_have key xs)

  pub keys_conflict : (key : List ℕ) (pairs : List (K × V)) → is_conflict bytes key (keys_of pairs) ≡ is_conflict (of_key bytes) key pairs
  keys_conflict key [] = refl
  keys_conflict key (x ∷ xs) = ap (λ b. (are_related key (bytes x.0) && not (are_same key (bytes x.0))) || b) (keys_conflict key xs)

  keys_removed : (key : List ℕ) (pairs : List (K × V)) → keys_of (remove_key (of_key bytes) key pairs) ≡ remove_key bytes key (keys_of pairs)
  keys_removed key [] = refl
  keys_removed key (x ∷ xs) = go (keys_removed key xs) (are_same key (bytes x.0)) refl
    where
      go : keys_of (remove_key (of_key bytes) key xs) ≡ remove_key bytes key (keys_of xs) → (b : Bool) → are_same key (bytes x.0) ≡ b →
          keys_of (remove_key (of_key bytes) key (x ∷ xs)) ≡ remove_key bytes key (keys_of (x ∷ xs))
      go ih true e = rw e ih
      go ih false e = rw e (ap (λ ks. x.0 ∷ ks) ih)

  pub removed_keys : (key : List ℕ) (pairs : List (K × V)) → remove_key bytes key (keys_of pairs) ≡ keys_of (remove_key (of_key bytes) key pairs)
  removed_keys key pairs = sym (keys_removed key pairs)

  keys_added : (new : K × V) (pairs : List (K × V)) → keys_of (add_in_order (of_key bytes) new pairs) ≡ add_in_order bytes new.0 (keys_of pairs)
  keys_added new [] = refl
  keys_added new (x ∷ xs) = go (keys_added new xs) (is_before (bytes new.0) (bytes x.0)) refl
    where
      go : keys_of (add_in_order (of_key bytes) new xs) ≡ add_in_order bytes new.0 (keys_of xs) → (b : Bool) → is_before (bytes new.0) (bytes x.0) ≡ b →
          keys_of (add_in_order (of_key bytes) new (x ∷ xs)) ≡ add_in_order bytes new.0 (keys_of (x ∷ xs))
      go ih true e = rw e refl
      go ih false e = rw e (ap (λ ks. x.0 ∷ ks) ih)

  -- a key replaces an equal one
  pub keys_replaced : (key : K) (value : V) (pairs : List (K × V)) →
      keys_of (replace_key (of_key bytes) (key, value) pairs) ≡ replace_key bytes key (keys_of pairs)
  keys_replaced key value pairs =
      keys_added (key, value) (remove_key (of_key bytes) (bytes key) pairs) ∙ ap (add_in_order bytes key) (keys_removed (bytes key) pairs)

  keys_written : (key : List ℕ) (value : V) (pairs : List (K × V)) → keys_of (with_value_at bytes key value pairs) ≡ keys_of pairs
  keys_written key value [] = refl
  keys_written key value (x ∷ xs) = go (keys_written key value xs) (are_same key (bytes x.0)) refl
    where
      go : keys_of (with_value_at bytes key value xs) ≡ keys_of xs → (b : Bool) → are_same key (bytes x.0) ≡ b →
          keys_of (with_value_at bytes key value (x ∷ xs)) ≡ keys_of (x ∷ xs)
      go ih true e = rw e (ap (λ ks. x.0 ∷ ks) ih)
      go ih false e = rw e (ap (λ ks. x.0 ∷ ks) ih)

  pub keys_below : (prefix : List ℕ) (pairs : List (K × V)) → below bytes prefix (keys_of pairs) ≡ keys_of (below (of_key bytes) prefix pairs)
  keys_below prefix pairs = keys_where _ pairs

  pub keys_between : (from to : Bound (List ℕ)) (pairs : List (K × V)) → between bytes from to (keys_of pairs) ≡ keys_of (between (of_key bytes) from to pairs)
  keys_between from to pairs = keys_where _ pairs

  pub keys_with : (key : List ℕ) (pairs : List (K × V)) → with_key bytes key (keys_of pairs) ≡ keys_of (with_key (of_key bytes) key pairs)
  keys_with key pairs = keys_where _ pairs

  -- a removal returns a pair exactly where the key is stored
  pub removed_has : (key : List ℕ) (pairs : List (K × V)) → is_some (remove_reply (of_key bytes) key pairs) ≡ has_key bytes key (keys_of pairs)
  removed_has key pairs = sym (any_is_first (λ x. are_same key (bytes x.0)) pairs) ∙ sym (keys_have key pairs)

  module _ (key : K) (value : V) (pairs : List (K × V)) where
    has_found : has_key bytes (bytes key) (keys_of pairs) ≡ is_some (first_of (with_key (of_key bytes) (bytes key) pairs))
    has_found = keys_have (bytes key) pairs ∙ has_is_stored (of_key bytes) (key, value) pairs

    -- a put adds its key, if it is new
    pub keys_put : IsMap (of_key bytes) pairs → keys_of (put (of_key bytes) (key, value) pairs) ≡ add_key bytes key (keys_of pairs)
    keys_put rising = go (first_of (with_key (of_key bytes) (bytes key) pairs)) refl
      where
        go : (o : Option (K × V)) → first_of (with_key (of_key bytes) (bytes key) pairs) ≡ o →
            keys_of (put (of_key bytes) (key, value) pairs) ≡ add_key bytes key (keys_of pairs)
        go None none =
            let off : has_key bytes (bytes key) (keys_of pairs) ≡ false = has_found ∙ ap is_some none in
            ap keys_of (put-new (of_key bytes) (key, value) pairs none) ∙ keys_added (key, value) (remove_key (of_key bytes) (bytes key) pairs)
            ∙ ap (add_in_order bytes key) (keys_removed (bytes key) pairs ∙ none_removed bytes (bytes key) (keys_of pairs) off) ∙ (rw off refl)
        go (Some x) some =
            let on : has_key bytes (bytes key) (keys_of pairs) ≡ true = has_found ∙ ap is_some some in
            let stored : has_key (of_key bytes) (bytes key) pairs ≡ true = sym (keys_have (bytes key) pairs) ∙ on in
            sym (ap keys_of (new_written bytes key pairs rising value value))
            ∙ keys_written (bytes key) value (put_new bytes (key, value) pairs) ∙ (rw (stored, on) refl)

    -- it returns a pair exactly where the key is stored
    pub reply_has : is_some (put_reply (of_key bytes) (key, value) pairs) ≡ has_key bytes (bytes key) (keys_of pairs)
    reply_has = go (first_of (with_key (of_key bytes) (bytes key) pairs)) ∙ sym has_found
      where
        go : (o : Option (K × V)) → is_some (option_map (λ old. let r : K × V = (key, old.1) in r) o) ≡ is_some o
        go None = refl
        go (Some x) = refl

-- a set rejects the key of a pair that its map rejects
pub key_refused : {K : Type 0} (bytes : K → List ℕ) (key : K) (pairs : List (K × Unit {0})) (error : MapInsertError K (Unit {0})) →
    IsRefusalOf bytes key tt pairs error → IsKeyRefusal bytes key (keys_of pairs) (key_error error)
key_refused bytes key pairs (Conflict k v e) is = (is.0, is.2, keys_conflict bytes (bytes key) pairs ∙ is.3)
key_refused bytes key pairs (Memory k v) is = (is.0, keys_have bytes (bytes key) pairs ∙ is.2)

-- what is asked of the keys, by the pairs
pub ruleset set_laws = (
  keys_len,
  keys_first,
  keys_last,
  without_first_keys,
  without_last_keys,
  no_values,
  keys_have,
  keys_conflict,
  removed_keys,
  keys_below,
  keys_between,
  keys_with,
)
