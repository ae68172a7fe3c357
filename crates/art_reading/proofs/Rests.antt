-- what a comparison of the ends of two slices returns
use Rattle.std.proofs.Common.{◌≡◌, ◌≢◌, ◌∙◌, ℕ, ◌-◌, ◌≤◌, ◌↔◌, List, length, take, drop, length-drop, Bool, IsTrue, ap, subst, sym, arith}
use Rattle.std.proofs.lemmas.List.{take_rest}
use Rattle.art_model.specs.Prelude.{IsFront}
use Rattle.art_reading.specs.Matching.{MatchesLeafKey, compared_from}
use Rattle.art_reading.specs.declared.lookup.matching.PrefixMatchBehavior.{PrefixMatchBehavior}
use Rattle.art_reading.specs.declared.lookup.matching.PrefixMatchBehavior.TheVariants.{Optimistic, Pessimistic}

-- the slice from a place on
abbrev from_on : ℕ → List ℕ → List ℕ
from_on i xs = take (length xs - i) (drop i xs)

rest_is : {i n : ℕ} (xs : List ℕ) → i ≡ n → from_on i xs ≡ drop n xs
rest_is {i} {n} xs e = take_rest xs i ∙ ap (λ k. drop k xs) e

-- whether they are the same
pub rests_same : {i n : ℕ} {r : Bool} (a b : List ℕ) → i ≡ n → IsTrue r ↔ (from_on i a ≡ from_on i b) → IsTrue r ↔ (drop n a ≡ drop n b)
rests_same {i} {n} {r} a b e test =
    let x = rest_is a e in
    let y = rest_is b e in (λ t. sym x ∙ test.0 t ∙ y, λ h. test.1 (x ∙ h ∙ sym y))

-- whether one starts with the other
pub rest_front : {i n : ℕ} {r : Bool} (a b : List ℕ) → i ≡ n → IsTrue r ↔ IsFront (from_on i a) (from_on i b) → IsTrue r ↔ IsFront (drop n a) (drop n b)
rest_front {i} {n} {r} a b e test =
    subst (λ z. IsTrue r ↔ IsFront z (drop n b)) (rest_is a e) (subst (λ z. IsTrue r ↔ IsFront (from_on i a) z) (rest_is b e) test)

-- the comparison begins within both
compared_within : (behavior : PrefixMatchBehavior) (depth : ℕ) (a b : List ℕ) →
    (compared_from behavior depth a b ≤ length a) × (compared_from behavior depth a b ≤ length b)
compared_within Pessimistic depth a b = (omega arith, omega arith)
compared_within Optimistic depth a b = (omega arith, omega arith)

-- keys of two lengths are not the same
pub lengths_tell : (behavior : PrefixMatchBehavior) (depth : ℕ) (a b : List ℕ) → length a ≢ length b → MatchesLeafKey behavior depth a b → ⊥
lengths_tell behavior depth a b differ same =
    let n = compared_from behavior depth a b in
    let (in_a, in_b) = compared_within behavior depth a b in
    let x = length-drop n a in
    let y = length-drop n b in
    let z = ap length same in differ (omega arith)
