-- readings that are made only if there is a leaf
use Rattle.std.proofs.Common.{◌≡◌, ℕ, ◌≤◌, List, [], ◌∷◌, None, refl, ap, arith}
use Rattle.art_model.specs.Prelude.{first_of}
use Rattle.art_ranges.specs.PartReadings.{if_any}

module _ {N : Type 0} where
  pub if_any_most : (names : List N) (n : ℕ) → if_any names n ≤ n
  if_any_most [] n = omega arith
  if_any_most (name ∷ names) n = omega arith

  pub if_none : (names : List N) (n : ℕ) → names ≡ [] → if_any names n ≡ 0
  if_none names n is = ap (λ ns. if_any ns n) is

  pub if_no_first : (names : List N) (n : ℕ) → None ≡ first_of names → if_any names n ≡ 0
  if_no_first [] n e = refl
  if_no_first (name ∷ names) n e = absurd cc
