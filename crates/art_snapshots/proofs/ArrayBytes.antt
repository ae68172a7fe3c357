-- The bytes of an array.
use Rattle.std.proofs.Common.{◌≡◌, ◌≢◌, ℕ, zero, suc, List, [], ◌∷◌, length, ◌++◌, Option, Some, None, IfSome, IfNone, Result, Ok, Err, OnOk, is_ok, if◌then◌else◌, refl, ap, sym, ◌∙◌, arith}
use Rattle.art_snapshots.specs.ValueBytes.{array_bytes}

-- those of an array of so many bytes are its own
pub own_bytes : (count : ℕ) (bytes : List ℕ) → length bytes ≡ count → array_bytes count bytes ≡ bytes
unfolding array_bytes
own_bytes zero [] all = refl
own_bytes zero (byte ∷ bytes) all = absurd (omega (arith, all))
own_bytes (suc count) [] all = absurd (omega (arith, all))
own_bytes (suc count) (byte ∷ bytes) all = ap (λ rest. byte ∷ rest) (own_bytes count bytes (omega (arith, all)))

-- they are so many
pub count_bytes : (count : ℕ) (bytes : List ℕ) → length (array_bytes count bytes) ≡ count
unfolding array_bytes
count_bytes zero bytes = refl
count_bytes (suc count) [] = ap suc (count_bytes count [])
count_bytes (suc count) (byte ∷ bytes) = ap suc (count_bytes count bytes)

module _ (count : ℕ) (bytes : List ℕ) where
  -- an array that is read has these bytes
  pub array_read : (all : Option (List ℕ)) → IfSome all (λ all. all ≡ bytes) → IfSome all (λ all. length all ≡ count) →
      IfSome all (λ all. array_bytes count all ≡ bytes)
  array_read None same long = tt
  array_read (Some all) same long = own_bytes count all long ∙ same

  -- there is none if they are not so many
  pub no_array : (all : Option (List ℕ)) → IfNone all (length bytes ≢ count) → IfNone all ((value : List ℕ) → array_bytes count value ≢ bytes)
  no_array (Some all) other = tt
  no_array None other = λ value is. other (ap length (sym is) ∙ count_bytes count value)

-- bytes that are appended are those of the value
pub appended : {E : Type 0} (before after given bytes : List ℕ) (result : Result (Unit {0}) E) → given ≡ bytes →
    after ≡ (if is_ok result then before ++ given else before) → OnOk result (after ≡ before ++ bytes)
appended before after given bytes (Ok done) are is = is ∙ ap (λ b. before ++ b) are
appended before after given bytes (Err error) are is = tt
