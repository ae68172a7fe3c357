-- Errors that are about the bytes.
use Rattle.std.proofs.Common.{◌≡◌, Result, Ok, Err, IfErr, ap}
use Rattle.std.specs.Result.{IsErrAnd}
use Rattle.snapshot_format.specs.declared.error.ReadError.{ReadError}
use Rattle.snapshot_format.specs.declared.error.ReadError.TheVariants as errors
use Rattle.snapshot_format.specs.Reading.{IfFault}

pub if_fault : {P Q : Type 0} (error : ReadError) → (P → Q) → IfFault error P → IfFault error Q
if_fault (errors.Malformed malformed) f p = f p
if_fault errors.Memory f p = tt
if_fault (errors.Reader error) f p = tt

pub if_err_fault : {X P Q : Type 0} (result : Result X ReadError) → (P → Q) → IfErr result (λ error. IfFault error P) → IfErr result (λ error. IfFault error Q)
if_err_fault (Ok x) f h = tt
if_err_fault (Err error) f h = if_fault error f h

-- a `?` returned the error of a call
pub passed : {X : Type 0} (result : Result X ReadError) (error : ReadError) → IsErrAnd result (λ given. given ≡ error) → result ≡ Err error
passed (Ok x) error same = absurd same
passed (Err given) error same = ap (λ e. Err e) same
