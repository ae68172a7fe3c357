-- Bytes are those of the number whose digits they are.
use Rattle.std.proofs.Common.{◌≡◌, ℕ, zero, suc, ◌+◌, ◌*◌, ◌/◌, ◌%◌, ◌^◌, ◌<◌, List, [], ◌∷◌, length, get_or, refl, ap, ap₂, sym, subst, ◌∙◌, ◌⊎◌, inl, inr, arith}
use Rattle.std.proofs.Math.Nat as nat
use Rattle.std.proofs.lemmas.Nat.{div-mul-add, mul-add-lt}
use Rattle.std.specs.Int.{byte_at, bytes_high_first}
use Rattle.std.specs.List.{AllByRecursion as Each}
use Rattle.std.specs.Prelude.{ℤ, pos, negsuc}
use Rattle.std.proofs.lemmas.Bool.{cases_order, le-ltb, lt-ltb}
use Rattle.art_keys.specs.Decoded.{IsOfKey}
use Rattle.art_keys.specs.Numbers.{HasBytes, HasSignedBytes, half, lifted, lowered, number_of, signed_bytes}

-- the bytes make a number of as many bytes
pub number_small : (bytes : List ℕ) → Each (λ byte. byte < 256) bytes → HasBytes (length bytes) (number_of bytes)
number_small [] small = nat.one-le-pow 0 256 (omega arith)
number_small (byte ∷ bytes) small =
    let rest = number_small bytes small.1 in
    rw (nat.pow-succ' 256 (length bytes), nat.mul_comm 256 (256 ^ length bytes)) (mul-add-lt byte (256 ^ length bytes) (number_of bytes) 256 small.0 rest)

-- a byte as a digit in base 256
digit_at : (k n : ℕ) → byte_at k n ≡ n / 256 ^ k % 256
digit_at zero n = rw (nat.pow-zero 256, nat.div-one n) refl
digit_at (suc k) n = refl

-- a number in front of a digit and others
in_front : (a b p r : ℕ) → a * (256 * p) + (b * p + r) ≡ (a * 256 + b) * p + r
in_front a b p r = rw (nat.add-mul (a * 256) b p, nat.mul_assoc a 256 p) (sym (nat.add_assoc (a * (256 * p)) (b * p) r))

-- the lowest digits, whatever is in front of them
lowest : (a : ℕ) (bytes : List ℕ) → Each (λ byte. byte < 256) bytes →
    bytes_high_first (length bytes) (a * 256 ^ length bytes + number_of bytes) ≡ bytes
lowest a [] small = refl
lowest a (byte ∷ bytes) small =
    let p = 256 ^ length bytes in
    let r = number_of bytes in
    let whole : a * 256 ^ suc (length bytes) + (byte * p + r) ≡ (a * 256 + byte) * p + r =
    ap (λ q. a * q + (byte * p + r)) (nat.pow-succ' 256 (length bytes)) ∙ in_front a byte p r in
    let first : byte_at (length bytes) ((a * 256 + byte) * p + r) ≡ byte =
    digit_at (length bytes) ((a * 256 + byte) * p + r) ∙ ap (λ n. n % 256) (div-mul-add (a * 256 + byte) p r (number_small bytes small.1))
    ∙ nat.mul-add-mod_self_right a 256 byte ∙ nat.mod-eq_of_lt small.0 in
    ap (bytes_high_first (suc (length bytes))) whole ∙ ap₂ (λ x xs. x ∷ xs) first (lowest (a * 256 + byte) bytes small.1)

-- the bytes of the number are these
pub bytes_of_number : (bytes : List ℕ) → Each (λ byte. byte < 256) bytes → bytes_high_first (length bytes) (number_of bytes) ≡ bytes
bytes_of_number bytes small =
    let none : 0 * 256 ^ length bytes + number_of bytes ≡ number_of bytes = omega arith in
    ap (bytes_high_first (length bytes)) (sym none) ∙ lowest 0 bytes small

-- bytes that are read one by one are small
pub small_each : (bytes : List ℕ) → ((i : ℕ) → get_or bytes i 0 < 256) → Each (λ byte. byte < 256) bytes
small_each [] small = tt
small_each (byte ∷ bytes) small = (small 0, small_each bytes (λ i. small (suc i)))

module _ (count : ℕ) (bytes : List ℕ) (all : length bytes ≡ count) (small : (i : ℕ) → get_or bytes i 0 < 256) where
  -- the bytes are those of an unsigned number
  pub unsigned_bytes : HasBytes count (number_of bytes) × (bytes_high_first count (number_of bytes) ≡ bytes)
  unsigned_bytes =
      subst (λ n. HasBytes n (number_of bytes) × (bytes_high_first n (number_of bytes) ≡ bytes)) all
      (number_small bytes (small_each bytes small), bytes_of_number bytes (small_each bytes small))

  pub of_unsigned : IsOfKey (HasBytes count) (bytes_high_first count) bytes
  of_unsigned = record { key = number_of bytes; of_key = unsigned_bytes.0; is = sym unsigned_bytes.1 }

-- two halves of the range are all of it, unless the numbers have no bytes
two_halves : (count : ℕ) → 0 < count → half count + half count ≡ 256 ^ count
two_halves zero some = absurd (omega (arith, some))
two_halves (suc k) some = omega (arith, nat.pow-succ' 256 k)

-- a number of so many bytes is a signed one plus half of the range
lowered_back : (count n : ℕ) → half count + half count ≡ 256 ^ count → HasBytes count n →
    HasSignedBytes count (lowered count n) × (lifted count (lowered count n) ≡ n)
lowered_back count n halves small = go (cases_order n (half count))
  where
    go : (n ≡ half count) ⊎ ((n < half count) ⊎ (half count < n)) → HasSignedBytes count (lowered count n) × (lifted count (lowered count n) ≡ n)
    go (inl e) = rw (le-ltb n (half count) (omega arith)) (omega (arith, halves, small), omega arith)
    go (inr (inl h)) = rw (lt-ltb n (half count) h) (omega arith, omega arith)
    go (inr (inr h)) = rw (le-ltb n (half count) (omega arith)) (omega (arith, halves, small), omega arith)

-- no signed number has no bytes
pub has_some_bytes : (count : ℕ) (z : ℤ) → HasSignedBytes count z → 0 < count
has_some_bytes zero (pos n) small = absurd (omega (arith, small))
has_some_bytes zero (negsuc n) small = absurd (omega (arith, small))
has_some_bytes (suc k) z small = omega arith

module _ (count : ℕ) (bytes : List ℕ) (some : 0 < count) (all : length bytes ≡ count) (small : (i : ℕ) → get_or bytes i 0 < 256) where
  -- the bytes are those of a signed number
  pub are_signed : HasSignedBytes count (lowered count (number_of bytes)) × (signed_bytes count (lowered count (number_of bytes)) ≡ bytes)
  are_signed =
      let number = unsigned_bytes count bytes all small in
      let back = lowered_back count (number_of bytes) (two_halves count some) number.0 in
      (back.0, ap (bytes_high_first count) back.1 ∙ number.1)

  pub of_signed : IsOfKey (HasSignedBytes count) (signed_bytes count) bytes
  of_signed = record { key = lowered count (number_of bytes); of_key = are_signed.0; is = sym are_signed.1 }
