-- Numbers are read in one way only.
use Rattle.std.proofs.Common.{◌≡◌, ◌⊎◌, inl, inr, ℕ, zero, suc, ◌+◌, ◌*◌, ◌/◌, ◌%◌, ◌^◌, ◌<◌, ◌≤◌, List, [], ◌∷◌, ◌++◌, length, refl, ap, ap₂, sym, ◌∙◌, arith}
use Rattle.std.proofs.lemmas.Bool.{cases_lt, le-ltb, lt-ltb}
use Rattle.snapshot_format.specs.Numbers.{number_within, FitsWithin}

-- a number of one byte
pub within_small : (more n : ℕ) → n < 128 → number_within more n ≡ n ∷ []
unfolding number_within
within_small zero n small = refl
within_small (suc more) n small = rw (lt-ltb n 128 small) refl

-- a number of more bytes
pub within_large : (more n : ℕ) → 128 ≤ n → number_within (suc more) n ≡ (128 + n % 128) ∷ number_within more (n / 128)
unfolding number_within
within_large more n large = rw (le-ltb n 128 large) refl

-- the bytes of a number whose low bits and other bits are known
pub within_joined : (more low high : ℕ) → 0 < high → low < 128 → number_within (suc more) (high * 128 + low) ≡ (128 + low) ∷ number_within more high
within_joined more low high some small =
    let a : (high * 128 + low) % 128 ≡ low = omega arith in
    let b : (high * 128 + low) / 128 ≡ high = omega arith in
    within_large more (high * 128 + low) (omega arith) ∙ ap₂ (λ x y. (128 + x) ∷ number_within more y) a b

-- no number starts another one
pub one_form : (more m n : ℕ) (x y : List ℕ) → number_within more m ++ x ≡ number_within more n ++ y → (m ≡ n) × (x ≡ y)
unfolding number_within
one_form zero m n x y e = (cc, cc)
one_form (suc more) m n x y e = by (cases_lt m 128) (cases_lt n 128) (one_form more (m / 128) (n / 128) x y)
  where
    by : ((m < 128) ⊎ (128 ≤ m)) → ((n < 128) ⊎ (128 ≤ n)) →
        (number_within more (m / 128) ++ x ≡ number_within more (n / 128) ++ y → (m / 128 ≡ n / 128) × (x ≡ y)) → (m ≡ n) × (x ≡ y)
    by (inl a) (inl b) again =
        let f : m ∷ x ≡ n ∷ y = sym (ap (λ l. l ++ x) (within_small (suc more) m a)) ∙ e ∙ ap (λ l. l ++ y) (within_small (suc more) n b) in
        (cc, cc)
    by (inl a) (inr b) again =
        let f : m ∷ x ≡ (128 + n % 128) ∷ (number_within more (n / 128) ++ y) = sym (ap (λ l. l ++ x) (within_small (suc more) m a)) ∙ e ∙ ap (λ l. l ++ y) (within_large more n b) in
        let g : m ≡ 128 + n % 128 = cc in absurd (omega arith)
    by (inr a) (inl b) again =
        let f : (128 + m % 128) ∷ (number_within more (m / 128) ++ x) ≡ n ∷ y = sym (ap (λ l. l ++ x) (within_large more m a)) ∙ e ∙ ap (λ l. l ++ y) (within_small (suc more) n b) in
        let g : 128 + m % 128 ≡ n = cc in absurd (omega arith)
    by (inr a) (inr b) again =
        let f : (128 + m % 128) ∷ (number_within more (m / 128) ++ x) ≡ (128 + n % 128) ∷ (number_within more (n / 128) ++ y) =
        sym (ap (λ l. l ++ x) (within_large more m a)) ∙ e ∙ ap (λ l. l ++ y) (within_large more n b) in
        let g : 128 + m % 128 ≡ 128 + n % 128 = cc in
        let t : number_within more (m / 128) ++ x ≡ number_within more (n / 128) ++ y = cc in
        let r = again t in
        let h : m / 128 ≡ n / 128 = r.0 in
        (omega arith, r.1)

pub fits_within : (n : ℕ) → n < 2 ^ 64 → FitsWithin 9 n
unfolding FitsWithin
fits_within n small = omega arith

-- the other bytes of a number that is not the last
pub fits_more : (more n : ℕ) → FitsWithin (suc more) n → FitsWithin more (n / 128)
unfolding FitsWithin
fits_more more n h = h

pub fits_last : (n : ℕ) → FitsWithin 0 n → n < 128
unfolding FitsWithin
fits_last n h = h

-- bytes of the same number
pub same_split : (a b x y : List ℕ) → length a ≡ length b → a ++ x ≡ b ++ y → (a ≡ b) × (x ≡ y)
same_split [] [] x y l e = (refl, e)
same_split [] (d ∷ b) x y l e = absurd (omega arith)
same_split (c ∷ a) [] x y l e = absurd (omega arith)
same_split (c ∷ a) (d ∷ b) x y l e =
    let first : c ≡ d = cc in
    let tail : a ++ x ≡ b ++ y = cc in
    let r = same_split a b x y (omega arith) tail in
    (ap₂ (λ n l. n ∷ l) first r.0, r.1)
