-- Reading a number byte by byte.
use Rattle.std.proofs.Common.{◌≡◌, ◌≢◌, ◌⊎◌, inl, inr, ℕ, zero, suc, ◌+◌, ◌-◌, ◌*◌, ◌/◌, ◌%◌, ◌^◌, ◌<◌, ◌≤◌, List, [], ◌∷◌, ◌++◌, Option, Some, None, ap, sym, ◌∙◌, subst, arith}
use Rattle.std.proofs.lemmas.Bool.{cases_lt}
use Rattle.std.specs.Io.KnownBytes.{Consumes, IsAtEnd}
use Rattle.snapshot_format.specs.Numbers.{number_within, FitsWithin}
use Rattle.snapshot_format.specs.declared.source.Source.{Source}
use Rattle.snapshot_format.specs.Reading.{Reads}
use Rattle.snapshot_format.proofs.Known.{left_of, reads_more}
use Rattle.snapshot_format.proofs.Numbers.{within_small, within_large, within_joined, one_form, fits_last, fits_more}

-- what is left starts with no such number
abbrev pub StartsNoNumber : Option (List ℕ) → ℕ → Type 0
StartsNoNumber left more = (n : ℕ) (rest : List ℕ) → FitsWithin more n → n < 2 ^ 64 → left ≢ Some (number_within more n ++ rest)

never_empty : (more n : ℕ) (rest : List ℕ) → number_within more n ++ rest ≢ []
unfolding number_within
never_empty zero n rest e = cc
never_empty (suc more) n rest e = by (cases_lt n 128)
  where
    by : ((n < 128) ⊎ (128 ≤ n)) → ⊥
    by (inl small) = let f : n ∷ rest ≡ [] = sym (ap (λ l. l ++ rest) (within_small (suc more) n small)) ∙ e in cc
    by (inr large) = let f : (128 + n % 128) ∷ (number_within more (n / 128) ++ rest) ≡ [] = sym (ap (λ l. l ++ rest) (within_large more n large)) ∙ e in cc

-- at the end of the input
pub ends : (a : Option (List ℕ)) (more : ℕ) → IsAtEnd a → StartsNoNumber a more
ends None more end n rest fits small e = absurd cc
ends (Some xs) more end n rest fits small e = let f : xs ≡ number_within more n ++ rest = cc in never_empty more n rest (sym f ∙ end)

-- what is left after a byte that is not the last
after_byte : (a b : Option (List ℕ)) (more byte n : ℕ) (rest : List ℕ) → 128 ≤ byte → Consumes a b (byte ∷ []) → a ≡ Some (number_within (suc more) n ++ rest) →
    (128 ≤ n) × (b ≡ Some (number_within more (n / 128) ++ rest))
after_byte a b more byte n rest large read e = by (cases_lt n 128)
  where
    by : ((n < 128) ⊎ (128 ≤ n)) → (128 ≤ n) × (b ≡ Some (number_within more (n / 128) ++ rest))
    by (inl small) =
        let l = left_of a b (byte ∷ []) (n ∷ rest) read (e ∙ ap (λ bs. Some (bs ++ rest)) (within_small (suc more) n small)) in
        let f : n ∷ rest ≡ byte ∷ l.0 = l.2 in
        let g : n ≡ byte = cc in absurd (omega arith)
    by (inr some) =
        let l = left_of a b (byte ∷ []) ((128 + n % 128) ∷ (number_within more (n / 128) ++ rest)) read (e ∙ ap (λ bs. Some (bs ++ rest)) (within_large more n some)) in
        let f : (128 + n % 128) ∷ (number_within more (n / 128) ++ rest) ≡ byte ∷ l.0 = l.2 in
        let g : number_within more (n / 128) ++ rest ≡ l.0 = cc in
        (some, l.1 ∙ ap (λ bs. Some bs) (sym g))

-- a byte that can't be the last
pub is_last : (a b : Option (List ℕ)) (more byte : ℕ) → more ≡ 0 → 128 ≤ byte → Consumes a b (byte ∷ []) → StartsNoNumber a more
unfolding number_within
is_last a b zero byte none large read n rest fits small e =
    let l = left_of a b (byte ∷ []) (n ∷ rest) read e in
    let f : n ∷ rest ≡ byte ∷ l.0 = l.2 in
    let g : n ≡ byte = cc in
    let h = fits_last n fits in
    omega arith
is_last a b (suc more) byte none large read n rest fits small e = absurd (omega arith)

-- no number follows the byte
pub none_high : (a b : Option (List ℕ)) (more byte : ℕ) → 128 ≤ byte → Consumes a b (byte ∷ []) → StartsNoNumber b more → StartsNoNumber a (suc more)
none_high a b more byte large read high n rest fits small e =
    let r = after_byte a b more byte n rest large read e in
    high (n / 128) rest (fits_more more n fits) (omega arith) r.1

-- the number that follows the byte is too small or too large
pub wrong_high : (a b c : Option (List ℕ)) (more byte high : ℕ) → 128 ≤ byte → Consumes a b (byte ∷ []) → Consumes b c (number_within more high) → ((high ≡ 0) ⊎ (2 ^ 57 ≤ high)) → StartsNoNumber a (suc more)
wrong_high a b c more byte high large read read_high wrong n rest fits small e = by wrong
  where
    same : (128 ≤ n) × (n / 128 ≡ high)
    same =
        let r = after_byte a b more byte n rest large read e in
        let l = left_of b c (number_within more high) (number_within more (n / 128) ++ rest) read_high r.1 in
        (r.0, (one_form more (n / 128) high rest l.0 l.2).0)

    by : ((high ≡ 0) ⊎ (2 ^ 57 ≤ high)) → ⊥
    by (inl none) = let s = same in let f = s.0 in let g = s.1 in omega arith
    by (inr most) = let s = same in let f = s.0 in let g = s.1 in omega arith

module _ {R : Type 0} (left : R → Option (List ℕ)) where
  pub reads_small : (a b : Source R) (more byte : ℕ) → byte < 128 → Reads left a b (byte ∷ []) → Reads left a b (number_within more byte)
  reads_small a b more byte small read = subst (Reads left a b) (sym (within_small more byte small)) read

  pub reads_joined : (a b c : Source R) (more byte high : ℕ) → 0 < high → 128 ≤ byte → byte < 256 → Reads left a b (byte ∷ []) → Reads left b c (number_within more high) →
      Reads left a c (number_within (suc more) (high * 128 + (byte - 128)))
  reads_joined a b c more byte high some large small read read_high =
      let e : 128 + (byte - 128) ≡ byte = omega arith in
      subst (Reads left a c) (ap (λ x. x ∷ number_within more high) (sym e) ∙ sym (within_joined more (byte - 128) high some (omega arith)))
      (reads_more left a b c (byte ∷ []) (number_within more high) read read_high)
