-- Keys with the same bytes are equal, for each type.
use Rattle.std.proofs.Common.{◌≡◌, ℕ, List, length, ap, sym, ◌∙◌}
use Rattle.std.specs.Prelude.{⊤}
use Rattle.std.specs.Int.{bytes_high_first}
use Rattle.art_keys.specs.Decoded.{ComesBack}
use Rattle.art_keys.specs.Ended.{HasNoZero, ended, ended_length, without_end}
use Rattle.art_keys.specs.EndedLaws.{ended_comes_back}
use Rattle.art_keys.specs.Escapes.{escape, unescape}
use Rattle.art_keys.specs.EscapeLaws.{escape_comes_back}
use Rattle.art_keys.specs.Joins.{AreKeys, joined_bytes, joined_length, parted}
use Rattle.art_keys.specs.JoinLaws.{joins_come_back}
use Rattle.art_keys.specs.Numbers.{HasBytes, HasSignedBytes, lowered, number_of, signed_bytes}
use Rattle.art_keys.specs.NumberLaws.{numbers_come_back, signed_come_back}
use Rattle.art_keys.specs.Prefixes.{AreInjective}

-- keys that are recovered from their bytes
pub back_injective : {K : Type 0} (is_key : K → Type 0) (bytes : K → List ℕ) (key_of : List ℕ → K) (length_of : List ℕ → ℕ) →
    ComesBack is_key bytes key_of length_of → AreInjective is_key bytes
back_injective is_key bytes key_of length_of back a b of_a of_b same = sym (back a of_a).0 ∙ ap key_of same ∙ (back b of_b).0

pub fixed_injective : (n : ℕ) → AreInjective (λ bytes. length bytes ≡ n) (λ bytes. bytes)
fixed_injective n a b of_a of_b same = same

pub numbers_injective : (count : ℕ) → AreInjective (HasBytes count) (bytes_high_first count)
numbers_injective count = back_injective (HasBytes count) (bytes_high_first count) number_of (λ bytes. count) (numbers_come_back count)

pub signed_injective : (count : ℕ) → AreInjective (HasSignedBytes count) (signed_bytes count)
signed_injective count =
    back_injective (HasSignedBytes count) (signed_bytes count) (λ bytes. lowered count (number_of bytes)) (λ bytes. count)
    (signed_come_back count)

pub ended_injective : AreInjective HasNoZero ended
ended_injective = back_injective HasNoZero ended without_end ended_length ended_comes_back

pub escape_injective : AreInjective {K = List ℕ} (λ text. ⊤) escape
escape_injective = back_injective (λ text. ⊤) escape unescape ended_length escape_comes_back

module _ {A B : Type 0} (is_first : A → Type 0) (first : A → List ℕ) (is_second : B → Type 0) (second : B → List ℕ)
    (first_of : List ℕ → A) (first_length : List ℕ → ℕ) (second_of : List ℕ → B) (second_length : List ℕ → ℕ) where
  pub joins_injective : ComesBack is_first first first_of first_length → ComesBack is_second second second_of second_length →
      AreInjective (AreKeys is_first is_second) (joined_bytes first second)
  joins_injective back_first back_second =
      back_injective (AreKeys is_first is_second) (joined_bytes first second) (parted first_of first_length second_of)
      (joined_length first_length second_length)
      (joins_come_back is_first first is_second second first_of first_length second_of second_length back_first back_second)
