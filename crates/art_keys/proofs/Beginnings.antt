-- Bytes that start with those of two keys, one after the other.
use Rattle.std.proofs.Common.{◌≡◌, ◌∙◌, ℕ, ◌+◌, ◌-◌, ◌≤◌, List, ◌++◌, length, take, drop, length-append, append_assoc, ap, ap₂, arith}
use Rattle.std.proofs.Math.Seq.{drop-append_seam}
use Rattle.std.proofs.lemmas.List.{take_rest}
use Rattle.art_keys.specs.Joins.{joined_length}

module _ (front back rest these : List ℕ) (is : these ≡ (front ++ back) ++ rest) where
  -- they are those of the first key and others
  pub first_is : these ≡ front ++ (back ++ rest)
  first_is = is ∙ append_assoc front back rest

  -- the length of the first key is read from all of them, where it is whatever follows that key
  pub first_counted : (first_length : List ℕ → ℕ) → ((others : List ℕ) → first_length (front ++ others) ≡ length front) → first_length these ≡ length front
  first_counted first_length known = ap first_length first_is ∙ known (back ++ rest)

  -- what follows the first key is the second one and others
  pub second_is : (count : ℕ) → count ≡ length front → take (length these - count) (drop count these) ≡ back ++ rest
  second_is count counted =
      take_rest these count
      ∙ ap₂ (λ n bytes. drop n bytes) counted first_is
      ∙ drop-append_seam front (back ++ rest)

  -- both lengths together are at most that of all bytes
  pub both_within : (m n : ℕ) → m ≡ length front → n ≡ length back → m + n ≤ length these
  both_within m n is_m is_n = omega (arith, ap length is, length-append (front ++ back) rest, length-append front back, is_m, is_n)

  -- lengths that are read as those of the two keys are together at most that of all bytes
  pub both_counted : (first_length second_length : List ℕ → ℕ) →
      ((others : List ℕ) → first_length (front ++ others) ≡ length front) →
      ((others : List ℕ) → second_length (back ++ others) ≡ length back) →
      (m n : ℕ) →
      m ≡ first_length these →
      n ≡ second_length (take (length these - m) (drop m these)) → m + n ≤ length these
  both_counted first_length second_length first_known second_known m n is_m is_n =
      let is_first = is_m ∙ first_counted first_length first_known in
      both_within m n is_first (is_n ∙ ap second_length (second_is m is_first) ∙ second_known rest)

-- the two lengths, each read from where its key begins, are the length of the joined keys
pub lengths_joined : (first_length second_length : List ℕ → ℕ) (these : List ℕ) (m n : ℕ) → m ≡ first_length these →
    n ≡ second_length (take (length these - m) (drop m these)) →
    m + n ≡ joined_length first_length second_length these
lengths_joined first_length second_length these m n is_m is_n =
    ap₂ (λ s t. s + t) is_m (is_n ∙ ap second_length (take_rest these m) ∙ ap (λ k. second_length (drop k these)) is_m)
