-- The bytes of a number that was read from 16 bytes.
use Rattle.std.proofs.Common.{◌≡◌, ℕ, zero, suc, ◌+◌, ◌-◌, ◌*◌, ◌^◌, ◌<◌, List, [], ◌∷◌, length, get_or, Option, Some, None, IfSome, refl, ap, ap₂, sym, subst, ◌∙◌, arith}
use Rattle.std.proofs.Math.Nat as nat
use Rattle.std.proofs.lemmas.Int.{of_z-to_z}
use Rattle.std.specs.Int.{byte_worth, bytes_high_first, cast_signed, from_be_bytes, sum_through, to_be_bytes, w128}
use Rattle.std.specs.Prelude.{ℤ}
use Rattle.std.specs.Option.{IsSomeAnd, MatchOption}
use Rattle.art_keys.specs.Numbers.{HasBytes, number_of}
use Rattle.art_snapshots.specs.ValueBytes.{twos_complement}
use Rattle.art_snapshots.proofs.Digits.{bytes_of_number, number_small, small_each}

-- a sum whose first term is added last
first_term : (f : ℕ → ℕ) (k : ℕ) → sum_through f (suc k) ≡ f 0 + sum_through (λ i. f (suc i)) k
first_term f zero = refl
first_term f (suc k) = ap (λ n. n + f (suc (suc k))) (first_term f k) ∙ nat.add_assoc (f 0) (sum_through (λ i. f (suc i)) k) (f (suc (suc k)))

same_terms : (f g : ℕ → ℕ) → ((i : ℕ) → f i ≡ g i) → (k : ℕ) → sum_through f k ≡ sum_through g k
same_terms f g same zero = same 0
same_terms f g same (suc k) = ap₂ (λ a b. a + b) (same_terms f g same k) (same (suc k))

worth : (k byte : ℕ) → byte_worth k byte ≡ byte * 256 ^ k
worth zero byte = sym (rw (nat.pow-zero 256) (nat.mul-one byte))
worth (suc k) byte = refl

-- the number that is read from some bytes, whatever their number
sum_of_bytes : (k : ℕ) (bytes : List ℕ) → length bytes ≡ suc k →
    sum_through (λ i. byte_worth (k - i) (get_or bytes i 0)) k ≡ number_of bytes
sum_of_bytes k [] all = absurd (omega (arith, all))
sum_of_bytes zero (byte ∷ []) all = sym (rw (nat.pow-zero 256) (omega arith))
sum_of_bytes zero (byte ∷ other ∷ bytes) all = absurd (omega (arith, all))
sum_of_bytes (suc k) (byte ∷ bytes) all =
    let rest : length bytes ≡ suc k = omega (arith, all) in
    let first : byte_worth (suc k - 0) byte ≡ byte * 256 ^ length bytes =
    worth (suc k - 0) byte ∙ ap (λ n. byte * 256 ^ n) (omega (arith, rest)) in
    let others : sum_through (λ i. byte_worth (suc k - suc i) (get_or bytes i 0)) k ≡ number_of bytes =
    same_terms (λ i. byte_worth (suc k - suc i) (get_or bytes i 0)) (λ i. byte_worth (k - i) (get_or bytes i 0))
    (λ i. let place : suc k - suc i ≡ k - i = omega arith in ap (λ place. byte_worth place (get_or bytes i 0)) place) k ∙ sum_of_bytes k bytes rest in
    first_term (λ i. byte_worth (suc k - i) (get_or (byte ∷ bytes) i 0)) k ∙ ap₂ (λ a b. a + b) first others

module _ (bytes : List ℕ) (all : length bytes ≡ 16) (small : (i : ℕ) → get_or bytes i 0 < 256) where
  wide_bytes : to_be_bytes w128 (from_be_bytes w128 bytes) ≡ bytes
  wide_bytes =
      ap (bytes_high_first 16) (sum_of_bytes 15 bytes all)
      ∙ subst (λ n. bytes_high_first n (number_of bytes) ≡ bytes) all (bytes_of_number bytes (small_each bytes small))

  fits : from_be_bytes w128 bytes < 2 ^ 128
  fits =
      let number : HasBytes 16 (number_of bytes) = subst (λ n. HasBytes n (number_of bytes)) all (number_small bytes (small_each bytes small)) in
      subst (λ n. n < 2 ^ 128) (sym (sum_of_bytes 15 bytes all)) number

  wide_complement : twos_complement w128 (cast_signed w128 (from_be_bytes w128 bytes)) ≡ bytes
  wide_complement = ap (to_be_bytes w128) (of_z-to_z w128 (from_be_bytes w128 bytes) fits) ∙ wide_bytes

-- a value that is read from an array has its bytes
reads : {Z : Type 0} (bytes_of : Z → List ℕ) (of : List ℕ → Z) (bytes : List ℕ) → (length bytes ≡ 16 → bytes_of (of bytes) ≡ bytes) →
    (all : Option (List ℕ)) (read : Option Z) → IfSome all (λ all. all ≡ bytes) → IfSome all (λ all. length all ≡ 16) →
    MatchOption all (read ≡ None) (λ x. IsSomeAnd read (λ n. n ≡ of x)) → IfSome read (λ n. bytes_of n ≡ bytes)
reads bytes_of of bytes back None read same count made = subst (λ o. IfSome o (λ n. bytes_of n ≡ bytes)) (sym made) tt
reads bytes_of of bytes back (Some x) None same count made = tt
reads bytes_of of bytes back (Some x) (Some n) same count made =
    ap bytes_of (made ∙ ap of same) ∙ back (subst (λ l. length l ≡ 16) same count)

module _ (bytes : List ℕ) (small : (i : ℕ) → get_or bytes i 0 < 256) (all : Option (List ℕ)) (same : IfSome all (λ all. all ≡ bytes))
    (count : IfSome all (λ all. length all ≡ 16)) where
  pub reads_unsigned : (read : Option ℕ) → MatchOption all (read ≡ None) (λ x. IsSomeAnd read (λ n. n ≡ from_be_bytes w128 x)) →
      IfSome read (λ n. to_be_bytes w128 n ≡ bytes)
  reads_unsigned read made = reads (to_be_bytes w128) (from_be_bytes w128) bytes (λ long. wide_bytes bytes long small) all read same count made

  pub reads_signed : (read : Option ℤ) → MatchOption all (read ≡ None) (λ x. IsSomeAnd read (λ n. n ≡ cast_signed w128 (from_be_bytes w128 x))) →
      IfSome read (λ n. twos_complement w128 n ≡ bytes)
  reads_signed read made =
      reads (twos_complement w128) (λ x. cast_signed w128 (from_be_bytes w128 x)) bytes (λ long. wide_complement bytes long small) all read same count made
