use Rattle.std.proofs.Common.{eqb, ◌++◌, ◌∷◌, [], arith, ap, ap₂, sym, subst, ◌∙◌}
use Rattle.snapshot_format.specs.Snapshots.{IsNext, entries_bytes, entry}
use Rattle.snapshot_format.proofs.Faults.{if_fault, passed}
use Rattle.snapshot_format.proofs.Taking.{taken_begins, first_empty, is_next, taken_more, none_left, not_taken}
use Rattle.snapshot_format.proofs.Causes.{both_malformed, finds_after, if_malformed}
use Rattle.snapshot_format.proofs.WholeFaults.{entry_fault, taking_fault}
use Rattle.snapshot_format.specs.Faults.{EntryFault, Finds, HasEntries, NextFault}
use Rattle.snapshot_format.proofs.reading.read_entries.Goals as goal

pub loop-place-init : goal.loop-place-init
loop-place-init g c = taken_begins g.R.Read.remaining g.T.TakeEntries.takes c.args.source.now (g.T.TakeEntries.entries c.args.into.now) c.new-key.result.items c.requires c.new-key.ensures.items (omega arith)

pub read_entry-requires : goal.read_entry-requires
read_entry-requires g c = first_empty g.R.Read.remaining g.T.TakeEntries.takes c.args.source.now c.loop-place.source (g.T.TakeEntries.entries c.loop-place.into) c.loop-place.key.items c.loop-place.place c.loop-place.invariant

pub take_entry-requires-clause-next : goal.take_entry-requires-clause-next
take_entry-requires-clause-next g c =
    subst (IsNext (g.T.TakeEntries.entries c.loop-place.into)) (sym c.deref.ensures.value)
    (is_next g.R.Read.remaining g.T.TakeEntries.takes c.args.source.now c.loop-place.source (g.T.TakeEntries.entries c.loop-place.into) c.loop-place.key.items c.read_entry.new.key.items c.loop-place.place
    c.loop-place.invariant c.in_ok-read_entry.ensures.after)

pub loop-place-preserved : goal.loop-place-preserved
loop-place-preserved g c =
    taken_more g.R.Read.remaining g.T.TakeEntries.takes c.args.source.now c.loop-place.source c.read_entry.new.source (g.T.TakeEntries.entries c.loop-place.into) (g.T.TakeEntries.entries c.take_entry.new.into)
    c.loop-place.key.items (entry c.read_entry.new.key.items c.read_entry.new.value.items) c.loop-place.place c.loop-place.invariant c.in_ok-read_entry.ensures.read c.in_ok-read_entry.ensures.after
    (subst g.T.TakeEntries.takes (ap₂ entry c.deref.ensures.value c.deref-in-loop-place.ensures.value) c.in_ok-take_entry.ensures.takes)
    (c.in_ok-take_entry.ensures.ok ∙ ap (λ one. g.T.TakeEntries.entries c.loop-place.into ++ one ∷ []) (ap₂ entry c.deref.ensures.value c.deref-in-loop-place.ensures.value))

pub returns-in_err-read_entry : goal.returns-in_err-read_entry
returns-in_err-read_entry g c =
    let left = g.R.Read.remaining in
    let takes = g.T.TakeEntries.takes in
    let taken = g.T.TakeEntries.entries c.loop-place.into in
    let h = c.loop-place.invariant in
    rw (passed c.from_residual.result c.in_err-read_entry.field-0.0 c.from_residual.ensures.1) (record {
      count = tt;
      read = tt;
      rising = tt;
      takes = tt;
      fault = if_fault c.in_err-read_entry.field-0.0 (none_left left takes c.args.source.now c.loop-place.source taken c.loop-place.key.items c.loop-place.place c.args.count h c.loop-place-test.true) c.in_err-read_entry.ensures.fault;
      why = if_malformed c.in_err-read_entry.field-0.0
          (finds_after left c.args.source.now c.loop-place.source c.read_entry.new.source (EntryFault (eqb c.loop-place.place 0) c.loop-place.key.items) (λ fault. HasEntries takes (NextFault takes fault) c.args.count) (entries_bytes [] taken) h.reads
          (entry_fault left takes c.args.source.now c.loop-place.source taken c.loop-place.key.items c.loop-place.place c.args.count h c.loop-place-test.true)) c.in_err-read_entry.ensures.why;
    })

pub returns-in_err-take_entry : goal.returns-in_err-take_entry
returns-in_err-take_entry g c =
    let left = g.R.Read.remaining in
    let takes = g.T.TakeEntries.takes in
    let taken = g.T.TakeEntries.entries c.loop-place.into in
    let one = entry c.read_entry.new.key.items c.read_entry.new.value.items in
    let h = c.loop-place.invariant in
    let read = c.in_ok-read_entry.ensures in
    let fault = if_fault c.in_err-take_entry.field-0.0 (subst (λ one. takes one → ⊥) (ap₂ entry c.deref.ensures.value c.deref-in-loop-place.ensures.value)) c.in_err-take_entry.ensures.fault in
    rw (passed c.from_residual-in_err-take_entry.result c.in_err-take_entry.field-0.0 c.from_residual-in_err-take_entry.ensures.1) (record {
      count = tt;
      read = tt;
      rising = tt;
      takes = tt;
      fault = if_fault c.in_err-take_entry.field-0.0 (not_taken left takes c.args.source.now c.loop-place.source c.read_entry.new.source taken c.loop-place.key.items one c.loop-place.place c.args.count h c.loop-place-test.true read.read) fault;
      why = both_malformed c.in_err-take_entry.field-0.0 fault c.in_err-take_entry.ensures.why
          (λ m bad is. subst (Finds left c.args.source.now c.read_entry.new.source (λ fault. HasEntries takes (NextFault takes fault) c.args.count)) (sym is)
          (taking_fault left takes c.args.source.now c.loop-place.source c.read_entry.new.source taken c.loop-place.key.items one c.loop-place.place c.args.count h c.loop-place-test.true read.read read.after bad));
    })

pub returns : goal.returns
returns g c =
    let h = c.loop-place.invariant in
    record {
      count = let n = h.counted in omega arith;
      read = h.reads;
      rising = h.rising;
      takes = h.each;
      fault = tt;
      why = tt;
    }
