use Rattle.snapshot_format.proofs.Faults.{if_err_fault, if_fault, passed}
use Rattle.snapshot_format.proofs.Known.{entry_read}
use Rattle.std.proofs.lemmas.Result.{on_ok_weaker}
use Rattle.snapshot_format.proofs.RestsOfBytes.{no_key, no_value}
use Rattle.std.proofs.Common.{arith}
use Rattle.snapshot_format.proofs.Causes.{finds_after, if_err_malformed}
use Rattle.snapshot_format.proofs.PartFaults.{value_entry}
use Rattle.snapshot_format.specs.Faults.{EntryFault, SizedFault}
use Rattle.snapshot_format.specs.Snapshots.{key_bytes}
use Rattle.snapshot_format.proofs.reading.read_entry.Goals as goal

pub returns-in_err-read_key : goal.returns-in_err-read_key
returns-in_err-read_key g c =
    rw (passed c.from_residual.result c.in_err-read_key.field-0.0 c.from_residual.ensures.1) (record {
      read = tt;
      after = tt;
      fault = if_fault c.in_err-read_key.field-0.0 (no_key (g.R.Read.remaining c.args.source.now.input) c.args.key.now.items c.args.is_first) c.in_err-read_key.ensures.fault;
      why = c.in_err-read_key.ensures.why;
    })

pub returns : goal.returns
returns g c =
    let left = g.R.Read.remaining in
    let is_first = c.args.is_first in
    let before = c.args.key.now.items in
    let key = c.read_key.new.key.items in
    let h = c.in_ok-read_key.ensures in
    record {
      read = on_ok_weaker c.append_sized.result
          (entry_read left c.args.source.now c.read_key.new.source c.append_sized.new.self before key c.clear.new.self.items c.append_sized.new.into.items c.clear.ensures.items h.read) c.append_sized.ensures.read;
      after = on_ok_weaker c.append_sized.result (λ read. h.after) c.append_sized.ensures.read;
      fault = if_err_fault c.append_sized.result (no_value (left c.args.source.now.input) (left c.read_key.new.source.input) before key is_first h.read.taken) c.append_sized.ensures.fault;
      why = if_err_malformed c.append_sized.result (finds_after left c.args.source.now c.read_key.new.source c.append_sized.new.self SizedFault (EntryFault is_first before) (key_bytes before key) h.read
          (value_entry is_first before before key (omega arith) (omega arith))) c.append_sized.ensures.why;
    }
