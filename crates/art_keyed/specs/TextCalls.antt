-- What calls by a text return, and the pairs after them.
use Rattle.std.specs.Prelude.{◌≡◌, ℕ, List, [], Some, None}
use Rattle.art_keys.specs.Ended.{HasNoZero}
use Rattle.art_model.specs.Pairs.{last_of, of_key, remove_key}
use Rattle.art_changing.specs.MapAnswers.{refused_pair}
use Rattle.art_map.specs.declared.map.to_key.MapSourceError.{MapSourceError}
use Rattle.art_map.specs.declared.map.to_key.MapSourceError.TheVariants as sources
use Rattle.art_keyed.specs.KeyedPairs.{strings_in_front}
use Rattle.art_keyed.specs.declared.map.texts.TextRefused.{TextRefused}
use Rattle.art_keyed.specs.declared.map.texts.TextRefused.TheVariants.{InnerZero, Memory}

-- the error returns the value: there is a zero in the text, or there is none and an allocation failed
abbrev pub IsTextRefusal : {V : Type 0} → List ℕ → V → TextRefused V → Type 0
IsTextRefusal text value (InnerZero given) = (given ≡ value) × ¬ HasNoZero text
IsTextRefusal text value (Memory given) = (given ≡ value) × HasNoZero text

-- the error of a map of bytes, as an error of texts
abbrev pub text_refused : {K V : Type 0} → MapSourceError K V → TextRefused V
text_refused (sources.NoKey value) = InnerZero value
text_refused (sources.Memory value) = Memory value
text_refused (sources.Insert error) = Memory (refused_pair error).1

module _ {K V : Type 0} (bytes text : K → List ℕ) (string : List ℕ) where
  -- the bytes of the key with the longest string that is a prefix of this one, if there is one
  abbrev pub longest_key : List (K × V) → List ℕ
  longest_key pairs = elim (last_of (strings_in_front text string pairs)) [ None ↦ [] | Some pair ↦ bytes pair.0 ]

  -- the pairs without that one
  abbrev pub without_longest : List (K × V) → List (K × V)
  without_longest pairs =
      elim (last_of (strings_in_front text string pairs)) [ None ↦ pairs | Some pair ↦ remove_key (of_key bytes) (bytes pair.0) pairs ]
