-- The leases that are left, computed on a row that was worked out by hand.
use Rattle.std.proofs.Common.{◌≡◌, ℕ, List, [], ◌∷◌, Some, None, refl}
use Rattle.uses.specs.Leases.{ends_after, first_due, ids_after}

-- a time of eight bytes, of which the last is this one, before other bytes
abbrev at : ℕ → List ℕ → List ℕ
at time others = 0 ∷ 0 ∷ 0 ∷ 0 ∷ 0 ∷ 0 ∷ 0 ∷ time ∷ others

-- those of 7, 8 and 9 end at 1, 2 and 3
abbrev all_ends : List (List ℕ × ℕ)
all_ends = (at 1 (7 ∷ []), 70) ∷ (at 2 (8 ∷ []), 80) ∷ (at 3 (9 ∷ []), 90) ∷ []

abbrev all_ids : List (List ℕ × ℕ)
all_ids = (7 ∷ [], 70) ∷ (8 ∷ [], 80) ∷ (9 ∷ [], 90) ∷ []

at_two : (first_due (λ lease. lease.0) (at 2 []) all_ends ≡ Some (at 1 (7 ∷ []), 70))
    × (ends_after (λ lease. lease.0) (at 2 []) all_ends ≡ (at 3 (9 ∷ []), 90) ∷ [])
    × (ids_after (λ lease. lease.0) (at 2 []) all_ids all_ends ≡ (9 ∷ [], 90) ∷ [])
at_two = (refl, refl, refl)

at_zero : (first_due (λ lease. lease.0) (at 0 []) all_ends ≡ None) × (ids_after (λ lease. lease.0) (at 0 []) all_ids all_ends ≡ all_ids)
at_zero = (refl, refl)
