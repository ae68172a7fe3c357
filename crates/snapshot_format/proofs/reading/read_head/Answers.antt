use Rattle.std.proofs.Common.{◌≡◌, ◌++◌, ◌∷◌, [], refl, subst}
use Rattle.std.proofs.lemmas.Result.{IfOk-weaker}
use Rattle.snapshot_format.specs.Numbers.{number_bytes}
use Rattle.snapshot_format.specs.Snapshots.{head_bytes, magic}
use Rattle.snapshot_format.specs.Reading.{Reads}
use Rattle.snapshot_format.proofs.Faults.{if_err_fault, if_fault, passed}
use Rattle.snapshot_format.proofs.Known.{reads_more}
use Rattle.snapshot_format.proofs.RestsOfBytes.{after_same, after_first, not_at_end}
use Rattle.snapshot_format.proofs.Causes.{finds_after, finds_now, finds_part, if_err_malformed, if_malformed}
use Rattle.snapshot_format.proofs.WholeFaults.{count_fault, magic_fault, version_fault}
use Rattle.snapshot_format.specs.declared.error.Fault.TheVariants as faults
use Rattle.snapshot_format.specs.Faults.{HeadFault, IsNot, NumberFault}
use Rattle.snapshot_format.proofs.reading.read_head.Goals as goal

pub returns-in_err-expect : goal.returns-in_err-expect
unfolding head_bytes
returns-in_err-expect g c =
    rw (passed c.from_residual.result c.in_err-expect.field-0.0 c.from_residual.ensures.1) (record {
      read = tt;
      fault = if_fault c.in_err-expect.field-0.0 (λ none count rest small. none (1 ∷ (number_bytes count ++ rest))) c.in_err-expect.ensures.fault;
      why = if_malformed c.in_err-expect.field-0.0 (finds_part g.R.Read.remaining c.args.source.now c.expect.new.self (IsNot magic faults.NotASnapshot) HeadFault magic_fault) (c.in_err-expect.ensures.why (λ e. absurd cc));
    })

pub returns-in_err-version : goal.returns-in_err-version
unfolding head_bytes
returns-in_err-version g c =
    let a = g.R.Read.remaining c.args.source.now.input in
    let b = g.R.Read.remaining c.expect.new.self.input in
    rw (passed c.from_residual-in_err-version.result c.in_err-version.field-0.0 c.from_residual-in_err-version.ensures.1) (record {
      read = tt;
      fault = if_fault c.in_err-version.field-0.0 (λ end count rest small e.
          not_at_end b 1 (number_bytes count ++ rest) end (after_same a b magic (1 ∷ (number_bytes count ++ rest)) c.in_ok-expect.ensures.read.taken e)) c.in_err-version.ensures.fault;
      why = if_malformed c.in_err-version.field-0.0 (finds_after g.R.Read.remaining c.args.source.now c.expect.new.self c.byte.new.self (λ fault read. (fault ≡ faults.CutShort) × (read ≡ [])) HeadFault magic
          c.in_ok-expect.ensures.read version_fault) c.in_err-version.ensures.why;
    })

pub returns-then-version-ne-VERSION : goal.returns-then-version-ne-VERSION
unfolding head_bytes
returns-then-version-ne-VERSION g c =
    let left = g.R.Read.remaining in
    let version = c.in_ok-version.version in
    let start = c.in_ok-expect.ensures.read in
    let read = c.in_ok-version.ensures.read in
    rw c.malformed.ensures (record {
      read = tt;
      fault = λ count rest small e.
          let s = after_same (left c.args.source.now.input) (left c.expect.new.self.input) magic (1 ∷ (number_bytes count ++ rest)) start.taken e in
          c.if-version-ne-VERSION.true (after_first (left c.expect.new.self.input) (left c.byte.new.self.input) version 1 (number_bytes count ++ rest) read.taken s).0;
      why = finds_now left c.args.source.now c.byte.new.self HeadFault (faults.UnknownVersion version) (magic ++ version ∷ [])
          (reads_more left c.args.source.now c.expect.new.self c.byte.new.self magic (version ∷ []) start read) (λ e. absurd cc) (refl, c.if-version-ne-VERSION.true);
    })

pub returns : goal.returns
unfolding head_bytes
returns g c =
    let left = g.R.Read.remaining in
    let one : Reads left c.expect.new.self c.byte.new.self (1 ∷ []) = subst (λ v. Reads left c.expect.new.self c.byte.new.self (v ∷ [])) c.if-version-ne-VERSION.false c.in_ok-version.ensures.read in
    let two = reads_more left c.args.source.now c.expect.new.self c.byte.new.self magic (1 ∷ []) c.in_ok-expect.ensures.read one in
    record {
      read = IfOk-weaker c.number.result (λ n. Reads left c.byte.new.self c.number.new.self (number_bytes n)) (λ n. Reads left c.args.source.now c.number.new.self (head_bytes n))
          (λ n read. reads_more left c.args.source.now c.byte.new.self c.number.new.self (magic ++ 1 ∷ []) (number_bytes n) two read) c.number.ensures.read;
      fault = if_err_fault c.number.result
          (λ none count rest small e. none count rest small (after_same (left c.args.source.now.input) (left c.byte.new.self.input) (magic ++ 1 ∷ []) (number_bytes count ++ rest) two.taken e)) c.number.ensures.fault;
      why = if_err_malformed c.number.result (finds_after left c.args.source.now c.byte.new.self c.number.new.self NumberFault HeadFault (magic ++ 1 ∷ []) two count_fault) c.number.ensures.why;
    }
