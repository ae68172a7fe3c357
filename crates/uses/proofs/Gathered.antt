-- What accounts hold after calls of a closure, and a sum that it gathers.
use Rattle.std.proofs.Common.{◌≡◌, ℕ, ◌+◌, ◌-◌, ◌^◌, List, [], ◌∷◌, ◌++◌, map, min, sum_by, ◌∙◌, sym, ap₂, arith}
use Rattle.std.proofs.lemmas.List.{map-append}
use Rattle.std.proofs.lemmas.List.Sums.{sum_by_push}
use Rattle.art_operations.specs.MapCalls.{ChangesBy}
use Rattle.art_operations.proofs.CallerLemmas.{changes_known}
use Rattle.uses.specs.Accounts.{Account, paid}

-- what is known of the calls, the first state and each later one
pub after_calls : {F K V : Type 0} (calls : F → K × V → F → V → Type 0) (f : F) (before after : List (K × V)) (left : F) →
    ChangesBy calls f before after left → (Known : F → List (K × V) → List (K × V) → F → Type 0) → Known f [] [] f →
    ((first : F) (seen done : List (K × V)) (f : F) (x : K × V) (left : F) (w : V) → Known first seen done f → calls f x left w →
    Known first (seen ++ x ∷ []) (done ++ (x.0, w) ∷ []) left) → Known f before after left
after_calls calls f before after left changes Known none one = changes_known calls (Known f) (one f) f before after left none changes

-- one more pair is what a function gives
pub one_more : (h : Account → Account) (seen done : List Account) (x : Account) (w : ℕ) → done ≡ map h seen → (x.0, w) ≡ h x →
    done ++ (x.0, w) ∷ [] ≡ map h (seen ++ x ∷ [])
one_more h seen done x w is one = ap₂ (λ ys y. ys ++ y ∷ []) is one ∙ sym (map-append h seen (x ∷ []))

-- a sum that stays at the greatest number, with one number more
pub sum_more : (fee : ℕ) (seen : List Account) (x : Account) (sum next : ℕ) → sum ≡ min (sum_by (paid fee) seen) (2 ^ 64 - 1) →
    next ≡ min (sum + paid fee x) (2 ^ 64 - 1) → next ≡ min (sum_by (paid fee) (seen ++ x ∷ [])) (2 ^ 64 - 1)
sum_more fee seen x sum next is more =
    let a = sum_by (paid fee) seen in
    let p = paid fee x in
    let all : sum_by (paid fee) (seen ++ x ∷ []) ≡ a + p = sum_by_push (paid fee) seen x in
    rw all (omega (arith, is, more))
