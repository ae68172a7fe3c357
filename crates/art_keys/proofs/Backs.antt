-- The bytes of a key, and the key that is recovered from them.
use Rattle.std.proofs.Common.{◌≡◌, ◌∙◌, ℕ, List, ap, subst, sym}
use Rattle.art_keys.specs.Decoded.{AreOwn, ComesBack, IsOfKey}
use Rattle.art_keys.specs.JoinLaws.{joins_come_back}
use Rattle.art_keys.specs.Joins.{AreKeys, joined_bytes, joined_length, parted}

-- the bytes of a key are those of the key that is recovered from them
pub own_bytes : {K : Type 0} {is_key : K → Type 0} {bytes : K → List ℕ} (key_of : List ℕ → K) (length_of : List ℕ → ℕ) →
    ComesBack is_key bytes key_of length_of →
    (these : List ℕ) → IsOfKey is_key bytes these → AreOwn is_key bytes key_of these
own_bytes {is_key = is_key} {bytes = bytes} key_of length_of back these h =
    let same : key_of these ≡ h.key = ap key_of h.is ∙ (back h.key h.of_key).0 in
    record { of_key = subst is_key (sym same) h.of_key; is = h.is ∙ ap bytes (sym same) }

-- bytes of two keys are those of the keys that are recovered from them
pub joined_of : {A B : Type 0} {is_first : A → Type 0} {first : A → List ℕ} {is_second : B → Type 0} {second : B → List ℕ}
    (first_of : List ℕ → A) (first_length : List ℕ → ℕ) (second_of : List ℕ → B) (second_length : List ℕ → ℕ) →
    ComesBack is_first first first_of first_length → ComesBack is_second second second_of second_length →
    (these : List ℕ) → IsOfKey (AreKeys is_first is_second) (joined_bytes first second) these →
    (keys : A × B) → parted first_of first_length second_of these ≡ keys → these ≡ joined_bytes first second keys
joined_of {is_first = is_first} {first = first} {is_second = is_second} {second = second}
    first_of first_length second_of second_length back_first back_second these h keys is =
    let back = joins_come_back is_first first is_second second first_of first_length second_of second_length back_first back_second in
    (own_bytes (parted first_of first_length second_of) (joined_length first_length second_length) back these h).is ∙ ap (joined_bytes first second) is
