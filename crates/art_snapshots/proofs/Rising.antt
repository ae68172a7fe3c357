-- The entries of what is sorted rise.
use Rattle.std.proofs.Common.{ℕ, false, List, [], ◌∷◌, map}
use Rattle.art_model.specs.Pairs.{IsMap}
use Rattle.snapshot_format.specs.Snapshots.{IsRising, Rise, entry}

module _ {A : Type 0} (bytes value : A → List ℕ) where
  after_first : (x : A) (xs : List A) → IsMap bytes (x ∷ xs) → Rise false (bytes x) (map (λ y. entry (bytes y) (value y)) xs)
  unfolding Rise
  after_first x [] h = tt
  after_first x (y ∷ ys) h = (h.0.0.0, after_first y ys h.1)

  pub entries_rise : (xs : List A) → IsMap bytes xs → IsRising (map (λ y. entry (bytes y) (value y)) xs)
  unfolding Rise
  entries_rise [] h = tt
  entries_rise (x ∷ xs) h = (tt, after_first x xs h)
