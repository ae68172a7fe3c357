-- What the errors of insertions into a set return.
use Rattle.std.specs.Prelude.{◌≡◌, ℕ, false, List, ◌∷◌, ◌++◌, Option, Some}
use Rattle.std.specs.Iterator.{YieldsThen}
use Rattle.art_model.specs.Pairs.{has_key}
use Rattle.art_sets.specs.SetKeys.{add_all}
use Rattle.art_keyed_sets.specs.declared.set.KeyRefused.{KeyRefused}

module _ {I K : Type 0} (steps : I → Option K → I → Type 0) (bytes : K → List ℕ) where
  -- the keys before one were added; the error returns that one, which is not stored, and the iterator has the others
  abbrev pub AddsUntilRefused : I → List K → KeyRefused K → I → List K → Type 0
  AddsUntilRefused from before refused to after =
      (ks : List K) × YieldsThen steps from ks (Some refused.key) to × (after ≡ add_all bytes ks before) × (has_key bytes (bytes refused.key) after ≡ false)

  -- the same of the iterator of a value that is given: the key after them is not stored
  abbrev pub AddsUntilNew : {U : Type 0} → (U → I → Type 0) → U → List K → List K → Type 0
  AddsUntilNew gives given before after =
      (from to : I) × (refused : KeyRefused K) × gives given from × AddsUntilRefused from before refused to after

-- the first of the given keys were added, in their order; the error returns the next one, which is not stored, and the
-- others are left
abbrev pub AddsSomeOf : {K : Type 0} → (K → List ℕ) → List K → List K → KeyRefused K → List K → List K → Type 0
AddsSomeOf {K} bytes before given refused after left =
    (ks : List K) × (given ≡ ks ++ refused.key ∷ left) × (after ≡ add_all bytes ks before) × (has_key bytes (bytes refused.key) after ≡ false)
