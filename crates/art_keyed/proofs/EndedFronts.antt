-- Strings that are prefixes of another are the texts of keys that end with a zero.
use Rattle.std.proofs.Common.{◌≡◌, ◌≢◌, ℕ, ◌<◌, List, arith, refl, ap, ◌∙◌}
use Rattle.std.specs.List.{AllByRecursion as Each}
use Rattle.art_keys.specs.Ended.{HasNoZero, ended}
use Rattle.art_keys.specs.Prefixes.{IsInside, KeepsFronts}
use Rattle.art_parts.specs.Keys.{is_front}
use Rattle.art_model.specs.Pairs.{match_of, of_key, without_last}
use Rattle.art_model.proofs.lists.Lists.{Each-weaker}
use Rattle.art_model.specs.Texts.{AreEnded, IsEndedBy, texts_in_front, text_of}
use Rattle.art_model.proofs.keys.Texts.{ended_text}
use Rattle.art_keyed.specs.KeyedPairs.{HaveKeys, strings_in_front}
use Rattle.art_keyed.proofs.KeyRanges.{filter_same}

module _ {K : Type 0} (is_key : K → Type 0) (bytes text : K → List ℕ) (inside : List ℕ → List ℕ)
    (is_inside : IsInside is_key bytes text inside) (keeps : KeepsFronts inside) {V : Type 0}
    (pairs : List (K × V)) (known : HaveKeys is_key pairs) where
  -- each key ends with a zero
  pub are_ended : AreEnded (of_key bytes) 0 pairs
  are_ended =
      Each-weaker (λ x. is_key x.0) (λ x. IsEndedBy 0 (bytes x.0))
      (λ x of_key'. record {
        text = inside (text x.0);
        is = (is_inside x.0 of_key').0;
        above = Each-weaker (λ byte. byte ≢ 0) (λ byte. 0 < byte) (λ byte off. omega arith) (inside (text x.0)) (is_inside x.0 of_key').1;
      }) pairs known

  -- and its text is a prefix exactly if its string is one
  pub fronts_are : (query bytes_of_query : List ℕ) → bytes_of_query ≡ inside query →
      texts_in_front (of_key bytes) bytes_of_query pairs ≡ strings_in_front text query pairs
  fronts_are query bytes_of_query is =
      filter_same (λ x. is_key x.0) (λ x. is_front (text_of (of_key bytes) x) bytes_of_query) (λ x. is_front (text x.0) query)
      (λ x of_key'. ap (λ z. is_front z bytes_of_query) (ap without_last (is_inside x.0 of_key').0 ∙ ended_text (inside (text x.0)) 0)
      ∙ ap (is_front (inside (text x.0))) is ∙ keeps (text x.0) query) pairs known

-- a string without a zero is ended by a zero
no_zero_ended : (text : List ℕ) → HasNoZero text → IsEndedBy 0 (ended text)
no_zero_ended text none = record { text = text; is = refl; above = Each-weaker (λ byte. byte ≢ 0) (λ byte. 0 < byte) (λ byte off. omega arith) text none }

-- the same for keys alone
pub keys_are_ended : (keys : List (List ℕ)) → Each HasNoZero keys → AreEnded ended 0 keys
keys_are_ended keys known = Each-weaker HasNoZero (λ text. IsEndedBy 0 (ended text)) no_zero_ended keys known

pub key_fronts_are : (query : List ℕ) (keys : List (List ℕ)) → Each HasNoZero keys → texts_in_front ended query keys ≡ match_of (λ string. string) query keys
key_fronts_are query keys known =
    filter_same HasNoZero (λ text. is_front (text_of ended text) query) (λ text. is_front text query)
    (λ text of_text. ap (λ z. is_front z query) (ended_text text 0)) keys known
