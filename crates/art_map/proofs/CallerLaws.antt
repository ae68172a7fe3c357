-- What a caller finds in a map after a change, whatever the pairs.
use Rattle.std.proofs.Common.{◌≡◌, ℕ, List, [], ◌∷◌, Bool, refl, ap, sym, ◌∙◌, Some, None, false, true, cond, option_map}
use Rattle.std.proofs.lemmas.Bool.{false≢true}
use Rattle.art_model.specs.Prelude.{are_same, first_of, of_key, put, remove_key, stored_for, with_key}
use Rattle.art_model.proofs.keys.Keys.{front_same, same_equal}
use Rattle.art_model.proofs.pairs.MapLaws.{put_is_found, removed_is_gone}
use Rattle.art_model.proofs.pairs.Puts.{stored_value}
use Rattle.art_changing.specs.MapAnswers.{value_at, with_value_at}

module _ {K V : Type 0} (bytes : K → List ℕ) where
  -- after a put its value is found under its key
  pub value_here : (key : K) (value : V) (pairs : List (K × V)) → value_at bytes (bytes key) (put (of_key bytes) (key, value) pairs) ≡ Some value
  value_here key value pairs =
      ap (λ xs. option_map (λ x. x.1) (first_of xs)) (put_is_found bytes (bytes key) (key, value) pairs
      ∙ ap (λ b. cond b (stored_for (of_key bytes) (key, value) pairs ∷ []) (with_key (of_key bytes) (bytes key) pairs)) (front_same (bytes key)))
      ∙ ap Some (stored_value bytes (key, value) pairs)

  -- and under every other key, what was found before
  pub value_elsewhere : (other : List ℕ) (key : K) (value : V) (pairs : List (K × V)) → are_same other (bytes key) ≡ false →
      value_at bytes other (put (of_key bytes) (key, value) pairs) ≡ value_at bytes other pairs
  value_elsewhere other key value pairs apart =
      ap (λ xs. option_map (λ x. x.1) (first_of xs)) (put_is_found bytes other (key, value) pairs
      ∙ ap (λ b. cond b (stored_for (of_key bytes) (key, value) pairs ∷ []) (with_key (of_key bytes) other pairs)) apart)

  -- under a removed key nothing is found
  pub value_gone : (key : List ℕ) (pairs : List (K × V)) → value_at bytes key (remove_key (of_key bytes) key pairs) ≡ None
  value_gone key pairs =
      ap (λ xs. option_map (λ x. x.1) (first_of xs))
      (removed_is_gone (of_key bytes) key key pairs ∙ ap (λ b. cond b [] (with_key (of_key bytes) key pairs)) (front_same key))

  -- and under every other key, what was found before
  pub value_left : (other key : List ℕ) (pairs : List (K × V)) → are_same other key ≡ false →
      value_at bytes other (remove_key (of_key bytes) key pairs) ≡ value_at bytes other pairs
  value_left other key pairs apart =
      ap (λ xs. option_map (λ x. x.1) (first_of xs))
      (removed_is_gone (of_key bytes) other key pairs ∙ ap (λ b. cond b [] (with_key (of_key bytes) other pairs)) apart)

  -- a value that was written under a key is found there, if one was found before
  pub value_written : (key : List ℕ) (value : V) (pairs : List (K × V)) →
      value_at bytes key (with_value_at bytes key value pairs) ≡ option_map (λ _. value) (value_at bytes key pairs)
  value_written key value [] = refl
  value_written key value (x ∷ xs) = go (value_written key value xs) (are_same key (bytes x.0)) refl
    where
      go : value_at bytes key (with_value_at bytes key value xs) ≡ option_map (λ _. value) (value_at bytes key xs) → (b : Bool) → are_same key (bytes x.0) ≡ b →
          value_at bytes key (with_value_at bytes key value (x ∷ xs)) ≡ option_map (λ _. value) (value_at bytes key (x ∷ xs))
      go ih true e = rw e (rw e refl)
      go ih false e = rw e (rw e ih)

  -- and under every other key, what was found before
  pub value_unwritten : (other key : List ℕ) (value : V) (pairs : List (K × V)) → are_same other key ≡ false →
      value_at bytes other (with_value_at bytes key value pairs) ≡ value_at bytes other pairs
  value_unwritten other key value [] apart = refl
  value_unwritten other key value (x ∷ xs) apart =
      go (value_unwritten other key value xs apart) (are_same key (bytes x.0)) (are_same other (bytes x.0)) refl refl
    where
      go : value_at bytes other (with_value_at bytes key value xs) ≡ value_at bytes other xs → (b d : Bool) → are_same key (bytes x.0) ≡ b →
          are_same other (bytes x.0) ≡ d →
          value_at bytes other (with_value_at bytes key value (x ∷ xs)) ≡ value_at bytes other (x ∷ xs)
      go ih true true e f = absurd (false≢true (sym apart ∙ ap (are_same other) (sym (same_equal key (bytes x.0) e)) ∙ f))
      go ih true false e f = rw (e, f) ih
      go ih false true e f = rw (e, f) refl
      go ih false false e f = rw (e, f) ih

-- For callers: `tactic(auto, using(crate::proofs::Laws::map_laws))`, where `proofs/Laws.antt` exports it again.
pub ruleset map_laws = (value_here, value_elsewhere, value_gone, value_left, value_written, value_unwritten)
