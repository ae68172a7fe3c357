-- Numbers as bytes: they are recovered, none is a prefix of another one, and their bytes are in the order of the
-- numbers.
use Rattle.std.proofs.Common.{◌≡◌, ℕ, zero, suc, ◌+◌, ◌-◌, ◌*◌, ◌/◌, ◌%◌, ◌^◌, ◌<◌, ◌≤◌, length, refl, ap, sym, ◌∙◌, arith, ◌⊎◌, inl, inr}
use Rattle.std.specs.Prelude.{ℤ, pos, negsuc}
use Rattle.std.proofs.lemmas.Bool.{le-ltb, lt-ltb, ne_eqb, cases_order, eq-eqb}
use Rattle.std.proofs.Math.Arith.{mod-mul}
use Rattle.std.proofs.Math.Nat as nat
use Rattle.std.specs.Cmp.Lexicographic.{slice_cmp}
use Rattle.std.specs.Int.{bytes_high_first, byte_at}
use Rattle.std.specs.Ordering.{nat_cmp, int_cmp, ordering_then}
use Rattle.art_keys.specs.Decoded.{ComesBack, HaveLength}
use Rattle.art_keys.specs.Numbers.{number_of, HasBytes, IsNumber, half, HasSignedBytes, IsSignedNumber, lifted, lowered, signed_bytes}
use Rattle.art_keys.specs.Prefixes.{HasNoPrefixes, KeepsOrder}
use Rattle.art_keys.specs.FixedLaws.{fixed_no_prefixes}

pub length-bytes : (count n : ℕ) → length (bytes_high_first count n) ≡ count
length-bytes zero n = refl
length-bytes (suc k) n = ap suc (length-bytes k n)

all_pos : (k : ℕ) → 0 < 256 ^ k
all_pos k = nat.one-le-pow k 256 (omega arith)

-- a byte as a digit in base 256
byte_is : (k n : ℕ) → byte_at k n ≡ n / 256 ^ k % 256
byte_is zero n = rw (nat.pow-zero 256, nat.div-one n) refl
byte_is (suc k) n = refl

-- one more byte
one_more : (k n : ℕ) → n % 256 ^ suc k ≡ byte_at k n * 256 ^ k + n % 256 ^ k
one_more k n = rw (nat.pow-succ' 256 k, byte_is k n) (mod-mul n (omega arith) (all_pos k))

pub number_of-bytes : (count n : ℕ) → number_of (bytes_high_first count n) ≡ n % 256 ^ count
number_of-bytes zero n = rw (nat.pow-zero 256) (sym (nat.mod-one n))
number_of-bytes (suc k) n = rw (length-bytes k n, number_of-bytes k n) (sym (one_more k n))

pub number_back : (count n : ℕ) → HasBytes count n → number_of (bytes_high_first count n) ≡ n
number_back count n small = number_of-bytes count n ∙ nat.mod-eq_of_lt small

pub number_is : (count n : ℕ) → HasBytes count n → IsNumber count (bytes_high_first count n)
number_is count n small = record { small = rw (number_back count n small) small; is = rw (number_back count n small) refl }

-- numbers that grow by the same amount compare as before
shift_cmp : (c r s : ℕ) → nat_cmp (c + r) (c + s) ≡ nat_cmp r s
shift_cmp c r s = go (cases_order r s)
  where
    go : (r ≡ s) ⊎ ((r < s) ⊎ (s < r)) → nat_cmp (c + r) (c + s) ≡ nat_cmp r s
    go (inl e) =
        rw (le-ltb (c + r) (c + s) (omega arith), le-ltb r s (omega arith), eq-eqb (c + r) (c + s) (omega arith), eq-eqb r s e) refl
    go (inr (inl h)) = rw (lt-ltb (c + r) (c + s) (omega arith), lt-ltb r s h) refl
    go (inr (inr h)) =
        rw (le-ltb (c + r) (c + s) (omega arith), le-ltb r s (omega arith), ne_eqb (c + r) (c + s) (λ e. omega arith), ne_eqb r s (λ e. omega arith)) refl

-- numbers with one more byte compare by that byte, and then by the rest
more_cmp : (a b r s p : ℕ) → r < p → s < p → ordering_then (nat_cmp a b) (nat_cmp r s) ≡ nat_cmp (a * p + r) (b * p + s)
more_cmp a b r s p small_r small_s = go (cases_order a b)
  where
    less : (x y r s : ℕ) → x < y → r < p → x * p + r < y * p + s
    less x y r s h small = let m : suc x * p ≤ y * p = nat.mul-le-mul_right p h in omega (arith, nat.suc-mul x p)

    go : (a ≡ b) ⊎ ((a < b) ⊎ (b < a)) → ordering_then (nat_cmp a b) (nat_cmp r s) ≡ nat_cmp (a * p + r) (b * p + s)
    go (inl e) = rw (← e, le-ltb a a (omega arith), eq-eqb a a refl) (sym (shift_cmp (a * p) r s))
    go (inr (inl h)) = let l = less a b r s h small_r in rw (lt-ltb a b h, lt-ltb (a * p + r) (b * p + s) l) refl
    go (inr (inr h)) =
        let l = less b a s r h small_s in
        rw (
          le-ltb a b (omega arith),
          ne_eqb a b (λ e. omega arith),
          le-ltb (a * p + r) (b * p + s) (omega arith),
          ne_eqb (a * p + r) (b * p + s) (λ e. omega arith),
        ) refl

bytes_cmp : (count n m : ℕ) → slice_cmp nat_cmp (bytes_high_first count n) (bytes_high_first count m) ≡ nat_cmp (n % 256 ^ count) (m % 256 ^ count)
bytes_cmp zero n m = rw (nat.pow-zero 256, nat.mod-one n, nat.mod-one m) refl
bytes_cmp (suc k) n m =
    rw (bytes_cmp k n m, one_more k n, one_more k m)
    (more_cmp (byte_at k n) (byte_at k m) (n % 256 ^ k) (m % 256 ^ k) (256 ^ k) (nat.mod-lt n (all_pos k)) (nat.mod-lt m (all_pos k)))

pub numbers_keep_order : (count : ℕ) → KeepsOrder (HasBytes count) (bytes_high_first count) nat_cmp
numbers_keep_order count a b of_a of_b =
    bytes_cmp count a b ∙ ap (λ x. nat_cmp x (b % 256 ^ count)) (nat.mod-eq_of_lt of_a) ∙ ap (λ x. nat_cmp a x) (nat.mod-eq_of_lt of_b)

pub numbers_no_prefixes : (count : ℕ) → HasNoPrefixes (HasBytes count) (bytes_high_first count)
numbers_no_prefixes count a b of_a of_b front = fixed_no_prefixes count _ _ (length-bytes count a) (length-bytes count b) front

pub numbers_come_back : (count : ℕ) → ComesBack (HasBytes count) (bytes_high_first count) number_of (λ bytes. count)
numbers_come_back count n small = (number_back count n small, λ rest. sym (length-bytes count n))

-- ---- signed numbers

-- a lifted number has so many bytes
pub lifted_small : (count : ℕ) (z : ℤ) → HasSignedBytes count z → HasBytes count (lifted count z)
lifted_small count (pos n) h = omega arith
lifted_small count (negsuc n) h = omega arith

pub lowered-lifted : (count : ℕ) (z : ℤ) → HasSignedBytes count z → lowered count (lifted count z) ≡ z
lowered-lifted count (pos n) h = rw (le-ltb (half count + n) (half count) (omega arith)) (ap pos (omega arith))
lowered-lifted count (negsuc n) h = rw (lt-ltb (half count - suc n) (half count) (omega arith)) (ap negsuc (omega arith))

-- natural numbers compare as they do as integers
two_tests : (n m : ℕ) → nat_cmp n m ≡ int_cmp (pos n) (pos m)
two_tests n m = go (cases_order n m)
  where
    go : (n ≡ m) ⊎ ((n < m) ⊎ (m < n)) → nat_cmp n m ≡ int_cmp (pos n) (pos m)
    go (inl e) = rw (le-ltb n m (omega arith), le-ltb m n (omega arith), eq-eqb n m e) refl
    go (inr (inl h)) = rw (lt-ltb n m h) refl
    go (inr (inr h)) = rw (le-ltb n m (omega arith), lt-ltb m n h, ne_eqb n m (λ e. omega arith)) refl

-- a subtraction from the same number reverses the order
turned : (c n m : ℕ) → n < c → m < c → nat_cmp (c - suc n) (c - suc m) ≡ nat_cmp m n
turned c n m of_n of_m = go (cases_order n m)
  where
    go : (n ≡ m) ⊎ ((n < m) ⊎ (m < n)) → nat_cmp (c - suc n) (c - suc m) ≡ nat_cmp m n
    go (inl e) =
        rw (
          le-ltb (c - suc n) (c - suc m) (omega arith),
          le-ltb m n (omega arith),
          eq-eqb (c - suc n) (c - suc m) (omega arith),
          eq-eqb m n (sym e),
        ) refl
    go (inr (inl h)) =
        rw (
          le-ltb (c - suc n) (c - suc m) (omega arith),
          le-ltb m n (omega arith),
          ne_eqb (c - suc n) (c - suc m) (λ e. omega arith),
          ne_eqb m n (λ e. omega arith),
        ) refl
    go (inr (inr h)) = rw (lt-ltb (c - suc n) (c - suc m) (omega arith), lt-ltb m n h) refl

lifted_cmp : (count : ℕ) (a b : ℤ) → HasSignedBytes count a → HasSignedBytes count b → nat_cmp (lifted count a) (lifted count b) ≡ int_cmp a b
lifted_cmp count (pos n) (pos m) of_a of_b = shift_cmp (half count) n m ∙ two_tests n m
lifted_cmp count (pos n) (negsuc m) of_a of_b =
    rw (le-ltb (half count + n) (half count - suc m) (omega arith), ne_eqb (half count + n) (half count - suc m) (λ e. omega arith)) refl
lifted_cmp count (negsuc n) (pos m) of_a of_b = rw (lt-ltb (half count - suc n) (half count + m) (omega arith)) refl
lifted_cmp count (negsuc n) (negsuc m) of_a of_b = turned (half count) n m of_a of_b ∙ two_tests m n

pub signed_keep_order : (count : ℕ) → KeepsOrder (HasSignedBytes count) (signed_bytes count) int_cmp
signed_keep_order count a b of_a of_b =
    numbers_keep_order count (lifted count a) (lifted count b) (lifted_small count a of_a) (lifted_small count b of_b) ∙ lifted_cmp count a b of_a of_b

pub signed_no_prefixes : (count : ℕ) → HasNoPrefixes (HasSignedBytes count) (signed_bytes count)
signed_no_prefixes count a b of_a of_b front = fixed_no_prefixes count _ _ (length-bytes count (lifted count a)) (length-bytes count (lifted count b)) front

pub signed_back : (count : ℕ) (z : ℤ) → HasSignedBytes count z → lowered count (number_of (signed_bytes count z)) ≡ z
signed_back count z h = ap (lowered count) (number_back count (lifted count z) (lifted_small count z h)) ∙ lowered-lifted count z h

pub signed_is : (count : ℕ) (z : ℤ) → HasSignedBytes count z → IsSignedNumber count (signed_bytes count z)
signed_is count z h = record { small = rw (signed_back count z h) h; is = rw (signed_back count z h) refl }

pub signed_come_back : (count : ℕ) → ComesBack (HasSignedBytes count) (signed_bytes count) (λ bytes. lowered count (number_of bytes)) (λ bytes. count)
signed_come_back count z small = (signed_back count z small, λ rest. sym (length-bytes count (lifted count z)))

-- each number has so many bytes
pub numbers_have_length : (count : ℕ) → HaveLength (HasBytes count) (bytes_high_first count) count
numbers_have_length count n small = length-bytes count n

pub signed_have_length : (count : ℕ) → HaveLength (HasSignedBytes count) (signed_bytes count) count
signed_have_length count z small = length-bytes count (lifted count z)
