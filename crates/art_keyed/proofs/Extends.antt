-- what an iterator that failed to be inserted leaves
use Rattle.std.proofs.Common.{Result, Ok, Err}
use Rattle.std.specs.Prelude.{IsErr, MatchResult, OnErr}

-- a fact holds also where there is an error
pub on_err : {T E X : Type 0} (result : Result T E) → X → OnErr result X
on_err (Ok value) fact = tt
on_err (Err error) fact = fact

-- what holds for each error holds where there is one
pub at_err : {T E : Type 0} (P : T → Type 0) {Q : E → Type 0} (result : Result T E) → IsErr result → ((error : E) → Q error) → MatchResult result P Q
at_err P (Ok value) is fact = absurd cc
at_err P (Err error) is fact = fact error
