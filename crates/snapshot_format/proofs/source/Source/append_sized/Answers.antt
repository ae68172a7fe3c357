use Rattle.std.proofs.Common.{◌≡◌, ◌<◌, length, arith}
use Rattle.snapshot_format.specs.declared.error.Fault.TheVariants as faults
use Rattle.std.proofs.lemmas.Result.{on_ok_weaker}
use Rattle.snapshot_format.specs.Faults.{NumberFault, SizedFault}
use Rattle.snapshot_format.specs.Numbers.{number_bytes}
use Rattle.snapshot_format.proofs.Causes.{finds_after, finds_part, if_err_malformed, if_malformed}
use Rattle.snapshot_format.proofs.Faults.{if_err_fault, if_fault, passed}
use Rattle.snapshot_format.proofs.Known.{few_sized, no_sized, sized_read}
use Rattle.snapshot_format.proofs.PartFaults.{few_sized as few_left, number_sized}
use Rattle.snapshot_format.proofs.source.Source.append_sized.Goals as goal

pub returns-in_err-len : goal.returns-in_err-len
returns-in_err-len g c =
    rw (passed c.from_residual.result c.in_err-len.field-0.0 c.from_residual.ensures.1) (record {
      read = tt;
      fault = if_fault c.in_err-len.field-0.0 (no_sized (g.R.Read.remaining c.args.self.now.input)) c.in_err-len.ensures.fault;
      why = if_malformed c.in_err-len.field-0.0 (finds_part g.R.Read.remaining c.args.self.now c.number.new.self NumberFault SizedFault number_sized) c.in_err-len.ensures.why;
    })

pub returns : goal.returns
returns g c =
    let left = g.R.Read.remaining in
    let len = c.in_ok-len.len in
    let read = c.in_ok-len.ensures.read in
    record {
      read = on_ok_weaker c.append.result (sized_read left c.args.self.now c.number.new.self c.append.new.self c.args.into.now.items c.append.new.into.items len read) c.append.ensures.read;
      fault = if_err_fault c.append.result (few_sized (left c.args.self.now.input) (left c.number.new.self.input) len read.taken) c.append.ensures.fault;
      why = if_err_malformed c.append.result (finds_after left c.args.self.now c.number.new.self c.append.new.self (λ fault read. (fault ≡ faults.CutShort) × (length read < len)) SizedFault
          (number_bytes len) read (few_left len (omega arith))) c.append.ensures.why;
    }
