-- Faults that are found after other bytes were read.
use Rattle.std.proofs.Common.{◌≡◌, ℕ, ◌+◌, List, ◌++◌, length, length-append, Option, Result, Ok, Err, IfErr, ap, sym, subst, ◌∙◌}
use Rattle.std.specs.Io.Iter.{u64_saturate}
use Rattle.std.specs.Io.KnownBytes.{Consumes, IsAtEnd}
use Rattle.snapshot_format.specs.declared.error.Fault.{Fault}
use Rattle.snapshot_format.specs.declared.error.Fault.TheVariants as faults
use Rattle.snapshot_format.specs.declared.error.Malformed.{Malformed}
use Rattle.snapshot_format.specs.declared.error.ReadError.{ReadError}
use Rattle.snapshot_format.specs.declared.error.ReadError.TheVariants as errors
use Rattle.snapshot_format.specs.declared.source.Source.{Source}
use Rattle.snapshot_format.specs.Faults.{Finds, IfMalformed}
use Rattle.snapshot_format.specs.Reading.{IfFault, Reads}
use Rattle.snapshot_format.proofs.Known.{consumes_more, saturate_more}

pub if_malformed : {P Q : Malformed → Type 0} (error : ReadError) → ((m : Malformed) → P m → Q m) → IfMalformed error P → IfMalformed error Q
if_malformed (errors.Malformed m) f p = f m p
if_malformed errors.Memory f p = tt
if_malformed (errors.Reader error) f p = tt

pub if_err_malformed : {X : Type 0} {P Q : Malformed → Type 0} (result : Result X ReadError) → ((m : Malformed) → P m → Q m) →
    IfErr result (λ error. IfMalformed error P) → IfErr result (λ error. IfMalformed error Q)
if_err_malformed (Ok x) f h = tt
if_err_malformed (Err error) f h = if_malformed error f h

pub both_malformed : {P : Type 0} {Q S : Malformed → Type 0} (error : ReadError) → IfFault error P → IfMalformed error Q → ((m : Malformed) → P → Q m → S m) → IfMalformed error S
both_malformed (errors.Malformed m) p q f = f m p q
both_malformed errors.Memory p q f = tt
both_malformed (errors.Reader error) p q f = tt

module _ {R : Type 0} (left : R → Option (List ℕ)) where
  -- in the bytes that were read until now
  pub finds_now : (a b : Source R) (says : Fault → List ℕ → Type 0) (fault : Fault) (read : List ℕ) → Reads left a b read → (fault ≡ faults.CutShort → IsAtEnd (left b.input)) → says fault read →
      Finds left a b says (record { at = b.at; fault = fault })
  finds_now a b says fault read h ended has = record { read = read; taken = h.taken; counted = h.counted; ended = ended; has = has }

  -- in the bytes that a later call read
  pub finds_after : (a b c : Source R) (says next : Fault → List ℕ → Type 0) (before : List ℕ) → Reads left a b before →
      ((fault : Fault) (read : List ℕ) → says fault read → next fault (before ++ read)) → (m : Malformed) → Finds left b c says m → Finds left a c next m
  finds_after a b c says next before h more m f = record {
    read = before ++ f.read;
    taken = consumes_more (left a.input) (left b.input) (left c.input) before f.read h.taken f.taken;
    counted = f.counted ∙ ap (λ n. u64_saturate (n + length f.read)) h.counted ∙ saturate_more a.at (length before) (length f.read)
        ∙ ap (λ n. u64_saturate (a.at + n)) (sym (length-append before f.read));
    ended = f.ended;
    has = more m.fault f.read f.has;
  }

  -- said of a part of what was to be read
  pub finds_part : (a b : Source R) (says next : Fault → List ℕ → Type 0) → ((fault : Fault) (read : List ℕ) → says fault read → next fault read) →
      (m : Malformed) → Finds left a b says m → Finds left a b next m
  finds_part a b says next more m f = record { read = f.read; taken = f.taken; counted = f.counted; ended = f.ended; has = more m.fault f.read f.has }

  -- after the checksum was reset
  pub finds_again : (a again b : Source R) (says : Fault → List ℕ → Type 0) (m : Malformed) → again.input ≡ a.input → again.at ≡ a.at → Finds left again b says m → Finds left a b says m
  finds_again a again b says m input at f = record {
    read = f.read;
    taken = subst (λ i. Consumes (left i) (left b.input) f.read) input f.taken;
    counted = f.counted ∙ ap (λ n. u64_saturate (n + length f.read)) at;
    ended = f.ended;
    has = f.has;
  }
