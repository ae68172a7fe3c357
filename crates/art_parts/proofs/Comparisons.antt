-- Numbers in order.
use Rattle.std.proofs.Common.{◌≡◌, ◌⊎◌, ℕ, ◌<◌, true, false, refl, inl, inr, arith, eqb, ltb}
use Rattle.std.proofs.lemmas.Bool.{eqb-true, eqb-false, ltb-true, ltb-false}

-- below, equal or above
pub by_order : (x b : ℕ) → (x < b) ⊎ ((x ≡ b) ⊎ (b < x))
by_order x b = elim (ltb x b) as (λ t. ltb x b ≡ t → (x < b) ⊎ ((x ≡ b) ⊎ (b < x))) [
  | true ↦ λ p. inl (ltb-true x b p)
  | false ↦ λ p. elim (eqb x b) as (λ t. eqb x b ≡ t → (x < b) ⊎ ((x ≡ b) ⊎ (b < x))) [
    | true ↦ λ q. inr (inl (eqb-true x b q))
    | false ↦ λ q. inr (inr (omega (arith, ltb-false x b p, eqb-false x b q)))
  ] refl
] refl
