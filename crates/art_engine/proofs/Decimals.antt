-- Which bytes are a number in decimal.
use Rattle.std.proofs.Common.{◌≡◌, ◌≢◌, ℕ, zero, suc, ◌<◌, ◌^◌, List, length, get_or, refl, ap, sym, ◌∙◌, subst, arith, false, eqb, Result, Ok, Err}
use Rattle.std.specs.List.{All}
use Rattle.std.specs.Option.{IfSome, IfNone}
use Rattle.std.specs.Result.{OkIff, result_ok}
use Rattle.std.specs.Fmt.{decimal}
use Rattle.std.specs.Int.{IsInRange}
use Rattle.std.specs.Str.{IsUtf8}
use Rattle.std.specs.Str.Parse.{ParsesUnsigned, AllDigits, digits_value}
use Rattle.std.proofs.lemmas.Str.{IsUtf8-from_ascii}
use Rattle.std.proofs.lemmas.List.{get_or_default}
use Rattle.std.proofs.lemmas.Bool.{ne_eqb}
use Rattle.std.proofs.lemmas.Str.Parse.{IsNumeralModel, parse_plain, not_in_digits}
use Rattle.std.proofs.lemmas.Fmt.{IsAscii-decimal, decimal_digit, decimal_nonempty, first_decimal, digits_decimal, decimal-digits_value, decimal_injective, parse-decimal}

own : IsNumeralModel (AllDigits 10) (digits_value 10)
own = record { to = λ ds h. h; from = λ ds h. h; same = λ ds h. refl }

-- a number has a digit, no leading plus, and no leading zero except for 0
pub decimal_begins : (bs : List ℕ) (n : ℕ) → n < 2 ^ 32 → bs ≡ decimal n → 0 < length bs
decimal_begins bs n small is = subst (λ xs. 0 < length xs) (sym is) (decimal_nonempty n (omega arith))

pub decimal_unsigned : (bs : List ℕ) (n : ℕ) → n < 2 ^ 32 → bs ≡ decimal n → get_or bs 0 0 ≢ 43
decimal_unsigned bs n small is plus =
    not_in_digits own (decimal n) 43 (digits_decimal own n (omega arith)) (λ h. omega (arith, h)) 0 (decimal_nonempty n (omega arith))
    (ap (λ xs. get_or xs 0 0) (sym is) ∙ plus)

pub decimal_unpadded : (bs : List ℕ) (n : ℕ) → n < 2 ^ 32 → bs ≡ decimal n → get_or bs 0 0 ≡ 48 → length bs ≡ 1
decimal_unpadded bs zero small is first = ap length (is ∙ decimal_digit 0 (omega arith))
decimal_unpadded bs (suc n) small is first = absurd (omega (arith, ap (λ xs. get_or xs 0 0) is, first_decimal (suc n) (omega arith) (omega arith)))

pub decimal_is_utf8 : (bs : List ℕ) (n : ℕ) → n < 2 ^ 32 → bs ≡ decimal n → IsUtf8 bs
decimal_is_utf8 bs n small is = subst IsUtf8 (sym is) (IsUtf8-from_ascii (decimal n) (IsAscii-decimal n (omega arith)))

-- what parsing gives for bytes with no leading plus and no leading zero
pub parsed : {E : Type 0} (bs : List ℕ) (r : Result ℕ E) → ParsesUnsigned 32 10 bs r → get_or bs 0 0 ≢ 43 →
    (get_or bs 0 0 ≡ 48 → length bs ≡ 1) → IfSome (result_ok r) (λ n. bs ≡ decimal n)
parsed {E} bs (Ok n) h plain unpadded =
    let r : Result ℕ E = Ok n in
    let k = parse_plain own 32 bs r h plain in
    sym (decimal-digits_value own bs k.0.0 k.0.1 unpadded (omega (arith, k.0.2))) ∙ ap decimal (sym k.1)
parsed bs (Err e) h plain unpadded = tt

pub not_parsed : {E : Type 0} (bs : List ℕ) (r : Result ℕ E) → ParsesUnsigned 32 10 bs r → IfNone (result_ok r) ((n : ℕ) → n < 2 ^ 32 → bs ≢ decimal n)
not_parsed bs (Ok n) h = tt
not_parsed {E} bs (Err e) h = λ n small is.
    let r : Result ℕ E = Err e in
    let k : r ≡ Ok n = parse-decimal 32 n bs r small (omega arith) is h in cc

-- a number that doesn't fit a byte writes none that does
pub too_large : {E : Type 0} (bs : List ℕ) (m : ℕ) (r : Result ℕ E) → m < 2 ^ 32 → bs ≡ decimal m → OkIff r (m < 2 ^ 8) m →
    IfNone (result_ok r) ((n : ℕ) → n < 2 ^ 8 → bs ≢ decimal n)
too_large bs m (Ok n) fits is h = tt
too_large bs m (Err e) fits is h = λ n small other. h (omega (arith, decimal_injective m n (omega arith) (omega arith) (sym is ∙ other)))

-- a number has nothing but digits
pub decimal_without : (c n : ℕ) → ¬ (IsInRange 48 57 c) → n < 2 ^ 8 → All (λ x. x ≢ c) (decimal n)
decimal_without c n other small k d below e =
    not_in_digits own (decimal n) c (digits_decimal own n (omega arith)) other k below (get_or_default (decimal n) k 0 d below ∙ e)

pub decimal_undotted : (n : ℕ) → n < 2 ^ 8 → All (λ c. eqb c 46 ≡ false) (decimal n)
decimal_undotted n small k d below = ne_eqb _ _ (decimal_without 46 n (λ h. omega (arith, h)) small k d below)
