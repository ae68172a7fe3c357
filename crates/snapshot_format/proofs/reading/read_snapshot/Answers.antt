use Rattle.std.proofs.lemmas.Result.{on_ok_weaker}
use Rattle.snapshot_format.proofs.Whole.{outside, matches, body_held, all_read, left_tail, head_is, entries_are, tail_is}
use Rattle.std.proofs.Common.{refl}
use Rattle.sha2.specs.Sha256.{sha256}
use Rattle.snapshot_format.proofs.Causes.{finds_after, if_err_malformed, if_malformed}
use Rattle.snapshot_format.proofs.Faults.{passed}
use Rattle.snapshot_format.proofs.WholeFaults.{body_read, explained, of_entries, of_tail}
use Rattle.snapshot_format.specs.Faults.{HasEntries, HasFault, HeadFault, NextFault, TailFault, in_head}
use Rattle.snapshot_format.specs.Snapshots.{body_of, head_bytes}
use Rattle.snapshot_format.specs.declared.source.Source.{Source}
use Rattle.snapshot_format.proofs.reading.read_snapshot.Goals as goal

pub returns-in_err-count : goal.returns-in_err-count
returns-in_err-count g c =
    let left = g.R.Read.remaining in
    let takes = g.T.TakeEntries.takes in
    let start : Source g.row.R.Denot = record { input = c.args.input; digest = c.new.result; at = 0 } in
    rw (passed c.from_residual.result c.in_err-count.field-0.0 c.from_residual.ensures.1) (record {
      read = tt;
      rising = tt;
      takes = tt;
      reads_back = λ entries stored each e. outside c.in_err-count.field-0.0 c.in_err-count.ensures.fault (λ none. head_is left start entries none stored e);
      fault = if_malformed c.in_err-count.field-0.0 (explained left takes start c.read_head.new.source HeadFault refl (λ fault read h. in_head h)) c.in_err-count.ensures.why;
    })

pub returns-in_err-read_entries : goal.returns-in_err-read_entries
returns-in_err-read_entries g c =
    let left = g.R.Read.remaining in
    let takes = g.T.TakeEntries.takes in
    let start : Source g.row.R.Denot = record { input = c.args.input; digest = c.new.result; at = 0 } in
    let count = c.in_ok-count.count in
    rw (passed c.from_residual-in_err-read_entries.result c.in_err-read_entries.field-0.0 c.from_residual-in_err-read_entries.ensures.1) (record {
      read = tt;
      rising = tt;
      takes = tt;
      reads_back = λ entries stored each e. outside c.in_err-read_entries.field-0.0 c.in_err-read_entries.ensures.fault
          (λ none. entries_are left takes start c.read_head.new.source count entries c.in_ok-count.ensures.read none stored each e);
      fault = if_malformed c.in_err-read_entries.field-0.0
          (λ m f. explained left takes start c.read_entries.new.source (HasFault takes) refl (λ fault read h. h) m
          (finds_after left start c.read_head.new.source c.read_entries.new.source (λ fault. HasEntries takes (NextFault takes fault) count) (HasFault takes) (head_bytes count) c.in_ok-count.ensures.read (of_entries takes count) m f))
          c.in_err-read_entries.ensures.why;
    })

pub returns : goal.returns
returns g c =
    let left = g.R.Read.remaining in
    let takes = g.T.TakeEntries.takes in
    let start : Source g.row.R.Denot = record { input = c.args.input; digest = c.new.result; at = 0 } in
    let taken = g.T.TakeEntries.entries c.read_entries.new.into in
    let count = c.in_ok-count.count in
    let head = c.in_ok-count.ensures.read in
    let h = c.in_ok-read_entries.ensures in
    let held = body_held left start c.read_head.new.source c.read_entries.new.source taken count head h.read h.count c.new.ensures in
    record {
      read = on_ok_weaker c.read_tail.result (λ tail. all_read left start c.read_head.new.source c.read_entries.new.source taken count head h.read h.count (tail (body_of taken) held)) c.read_tail.ensures.read;
      rising = on_ok_weaker c.read_tail.result (λ tail. h.rising) c.read_tail.ensures.read;
      takes = on_ok_weaker c.read_tail.result (λ tail. h.takes) c.read_tail.ensures.read;
      reads_back = λ entries stored each e. matches c.read_tail.result
          (left_tail left start c.read_head.new.source c.read_entries.new.source taken entries count head h.read h.count e).0
          c.read_tail.ensures.fault (λ none. tail_is left start c.read_head.new.source c.read_entries.new.source taken entries count head h.read h.count c.new.ensures none e);
      fault = if_err_malformed c.read_tail.result
          (λ m f. explained left takes start c.read_tail.new.source (HasFault takes) refl (λ fault read h. h) m
          (finds_after left start c.read_entries.new.source c.read_tail.new.source (TailFault (sha256 (body_of taken))) (HasFault takes) (body_of taken)
          (body_read left start c.read_head.new.source c.read_entries.new.source taken count head h.read h.count) (of_tail takes taken h.rising h.takes) m f)) (c.read_tail.ensures.why (body_of taken) held);
    }
