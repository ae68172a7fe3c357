use Rattle.std.proofs.Common.{◌++◌, ◌<◌, ◌≤◌, length, inl, inr, true, false, refl, arith}
use Rattle.snapshot_format.specs.Numbers.{number_bytes}
use Rattle.snapshot_format.specs.Snapshots.{sized}
use Rattle.snapshot_format.proofs.Faults.{if_fault, passed}
use Rattle.snapshot_format.proofs.Known.{reads_more}
use Rattle.snapshot_format.proofs.RestsOfBytes.{key_is, no_number_key, no_rest, not_above, shares_less, shares_within, tested}
use Rattle.snapshot_format.proofs.Causes.{finds_after, finds_now, finds_part, if_malformed}
use Rattle.snapshot_format.proofs.PartFaults.{misplaced, number_entry, others_entry}
use Rattle.snapshot_format.specs.declared.error.Fault.TheVariants as faults
use Rattle.snapshot_format.specs.Faults.{EntryFault, NumberFault, SizedFault}
use Rattle.snapshot_format.proofs.reading.read_key.Goals as goal

pub returns-in_err-shared : goal.returns-in_err-shared
returns-in_err-shared g c =
    rw (passed c.from_residual.result c.in_err-shared.field-0.0 c.from_residual.ensures.1) (record {
      read = tt;
      after = tt;
      fault = if_fault c.in_err-shared.field-0.0 (λ none next rest small after. no_number_key (g.R.Read.remaining c.args.source.now.input) c.args.key.now.items none (omega arith) next rest) c.in_err-shared.ensures.fault;
      why = if_malformed c.in_err-shared.field-0.0 (finds_part g.R.Read.remaining c.args.source.now c.number.new.self NumberFault (EntryFault c.args.is_first c.args.key.now.items) (number_entry c.args.is_first c.args.key.now.items)) c.in_err-shared.ensures.why;
    })

pub returns-then-shared-len : goal.returns-then-shared-len
returns-then-shared-len g c =
    let left = g.R.Read.remaining in
    let before = c.args.key.now.items in
    let shared = c.in_ok-shared.shared in
    let number = c.in_ok-shared.ensures.read in
    let more : length before < shared = omega arith in
    rw c.malformed.ensures (record {
      read = tt;
      after = tt;
      fault = λ next rest small after. shares_less (left c.args.source.now.input) (left c.number.new.self.input) before shared number.taken more next rest;
      why = finds_now left c.args.source.now c.number.new.self (EntryFault c.args.is_first before) faults.OutOfOrder (number_bytes shared) number (λ e. absurd cc)
          (inl (record { shared = shared; read_is = refl; more = more }));
    })

pub returns-in_err-append_sized : goal.returns-in_err-append_sized
returns-in_err-append_sized g c =
    rw (passed c.from_residual-in_err-append_sized.result c.in_err-append_sized.field-0.0 c.from_residual-in_err-append_sized.ensures.1) (record {
      read = tt;
      after = tt;
      fault = if_fault c.in_err-append_sized.field-0.0 (λ none next rest small after.
          no_rest (g.R.Read.remaining c.args.source.now.input) (g.R.Read.remaining c.number.new.self.input) c.args.key.now.items c.in_ok-shared.shared c.in_ok-shared.ensures.read.taken none next rest small) c.in_err-append_sized.ensures.fault;
      why = if_malformed c.in_err-append_sized.field-0.0 (finds_after g.R.Read.remaining c.args.source.now c.number.new.self c.append_sized.new.self SizedFault (EntryFault c.args.is_first c.args.key.now.items)
          (number_bytes c.in_ok-shared.shared) c.in_ok-shared.ensures.read (others_entry c.args.is_first c.args.key.now.items c.in_ok-shared.shared (omega arith))) c.in_err-append_sized.ensures.why;
    })

pub slice_bounds-is_next-count : goal.slice_bounds-is_next-count
slice_bounds-is_next-count g c =
    shares_within c.args.key.now.items c.in_ok-append_sized.ensures.read.bytes c.truncate.new.self.items c.append_sized.new.into.items c.deref-2.result.now c.in_ok-shared.shared (omega arith)
    c.truncate.ensures.items c.in_ok-append_sized.ensures.read.items c.deref-2.ensures.value

pub slice_bounds-is_next-start : goal.slice_bounds-is_next-start
slice_bounds-is_next-start g c = slice_bounds-is_next-count g c

pub returns-then-not-is_next : goal.returns-then-not-is_next
returns-then-not-is_next g c =
    let left = g.R.Read.remaining in
    let read = c.in_ok-append_sized.ensures.read in
    let before = c.args.key.now.items in
    let shared = c.in_ok-shared.shared in
    let number = c.in_ok-shared.ensures.read in
    let within : shared ≤ length before = omega arith in
    let t = tested c.args.is_first before read.bytes c.truncate.new.self.items c.append_sized.new.into.items c.deref.result.now c.deref-2.result.now c.byte_at-byte.result shared c.is_next.result false within
    c.truncate.ensures.items read.items c.deref.ensures.value c.byte_at-byte.ensures c.deref-2.ensures.value c.is_next.ensures c.if-not-is_next.true in
    rw c.malformed-then-not-is_next.ensures (record {
      read = tt;
      after = tt;
      fault = λ next rest small. not_above (left c.args.source.now.input) (left c.number.new.self.input) (left c.append_sized.new.self.input) before read.bytes c.args.is_first shared
          number.taken read.reads.taken t.1 next rest;
      why = finds_now left c.args.source.now c.append_sized.new.self (EntryFault c.args.is_first before) faults.OutOfOrder (number_bytes shared ++ sized read.bytes)
          (reads_more left c.args.source.now c.number.new.self c.append_sized.new.self (number_bytes shared) (sized read.bytes) number read.reads)
          (λ e. absurd cc) (inr (misplaced c.args.is_first before read.bytes shared within t.1));
    })

pub returns : goal.returns
returns g c =
    let read = c.in_ok-append_sized.ensures.read in
    let before = c.args.key.now.items in
    let shared = c.in_ok-shared.shared in
    let within : shared ≤ length before = omega arith in
    let t = tested c.args.is_first before read.bytes c.truncate.new.self.items c.append_sized.new.into.items c.deref.result.now c.deref-2.result.now c.byte_at-byte.result shared c.is_next.result true within
    c.truncate.ensures.items read.items c.deref.ensures.value c.byte_at-byte.ensures c.deref-2.ensures.value c.is_next.ensures c.if-not-is_next.false in
    let is = key_is c.args.is_first before read.bytes shared within c.requires t.1 in
    record {
      read = rw (t.0, ← is.0) (reads_more g.R.Read.remaining c.args.source.now c.number.new.self c.append_sized.new.self (number_bytes shared) (sized read.bytes) c.in_ok-shared.ensures.read read.reads);
      after = rw t.0 is.1;
      fault = tt;
      why = tt;
    }
