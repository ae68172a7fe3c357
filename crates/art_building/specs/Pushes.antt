-- What was added to a builder, and why a pair was not.
use Rattle.std.specs.Prelude.{◌≡◌, ℕ, List, ◌++◌, Option, Some, None}
use Rattle.std.specs.Iterator.{YieldsThen}
use Rattle.art_loading.specs.NextKeys.{IsReason}
use Rattle.art_loading.specs.declared.append.AppendError.{AppendError}
use Rattle.art_loading.specs.declared.append.AppendReason.{AppendReason}
use Rattle.art_loading.specs.declared.append.AppendReason.TheVariants.{Memory}
use Rattle.art_model.specs.Pairs.{last_of}

-- why a key was not added after these pairs; to none a key can be added, where there is memory
abbrev pub IsReasonAfter : {K V : Type 0} → (K → List ℕ) → Option (K × V) → K → AppendReason → Type 0
IsReasonAfter bytes None key reason = reason ≡ Memory
IsReasonAfter bytes (Some last) key reason = IsReason (bytes last.0) (bytes key) reason

-- the pair is returned, with the reason
abbrev pub IsPushError : {K V : Type 0} → (K → List ℕ) → List (K × V) → K → V → AppendError K V → Type 0
IsPushError bytes pairs key value error =
    (error.key ≡ key) × (error.value ≡ value) × IsReasonAfter bytes (last_of pairs) key error.reason

module _ {I K V : Type 0} (steps : I → Option (K × V) → I → Type 0) where
  -- all items of an iterator were added
  abbrev pub BuildsAll : I → List (K × V) → I → List (K × V) → Type 0
  BuildsAll from before to after = (xs : List (K × V)) × YieldsThen steps from xs None to × (after ≡ before ++ xs)

  -- the items before a pair were added, and the error returns the pair; the iterator has the others
  abbrev pub BuildsUntil : (K → List ℕ) → I → List (K × V) → AppendError K V → I → List (K × V) → Type 0
  BuildsUntil bytes from before error to after =
      (xs : List (K × V)) × YieldsThen steps from xs (Some (error.key, error.value)) to × (after ≡ before ++ xs) ×
      IsReasonAfter bytes (last_of after) error.key error.reason
