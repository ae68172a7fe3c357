use Rattle.std.proofs.Common.{true, false}
use Rattle.text_lines.proofs.LineParts.{read_as}
use Rattle.text_lines.proofs.Reading.{begins, ends, goes_on, stops}
use Rattle.text_programs.specs.Merged.{AreAdded}
use Rattle.text_programs.specs.Rows.{IsBadRow}
use Rattle.text_programs.proofs.MergeLemmas.{line_is_bad, none_added, nothing_told, one_count_more}
use Rattle.text_programs.proofs.word_counts.merging.add_counts.Goals as goal

pub loop-number-init : goal.loop-number-init
loop-number-init g c =
    begins (λ before. AreAdded c.args.counts.now c.args.counts.now before) (g.R.Read.remaining c.args.input.now) (none_added c.args.counts.now)

pub loop-number-preserved : goal.loop-number-preserved
loop-number-preserved g c =
    goes_on (λ before. AreAdded c.args.counts.now c.loop-number.counts before) (λ before. AreAdded c.args.counts.now c.add_count.new.counts before)
    (g.R.Read.remaining c.args.input.now) (g.R.Read.remaining c.loop-number.input) (g.R.Read.remaining c.next_line.new.input) c.loop-number.number
    c.next_line.new.line.items c.loop-number.invariant
    (read_as _ _ _ c.in-Ok-true.field-0 true c.in-Ok-true.field-0-test c.in-Ok-true.ensures)
    (one_count_more c.loop-number.number c.args.counts.now c.loop-number.counts c.next_line.new.line.items c.deref.result.now c.deref.ensures.value
    c.add_count.new.counts (c.in-Some.word.now, c.in-Some.count) c.in-Some.ensures.count c.in-Some.ensures.row c.in-Ok.ensures.added)

pub returns-in-Ok-false : goal.returns-in-Ok-false
returns-in-Ok-false g c = record {
  added =
      ends (λ before. AreAdded c.args.counts.now c.loop-number.counts before) (λ before. AreAdded c.args.counts.now c.loop-number.counts before)
      (g.R.Read.remaining c.args.input.now) (g.R.Read.remaining c.loop-number.input) (g.R.Read.remaining c.next_line.new.input) c.loop-number.number
      c.next_line.new.line.items c.loop-number.invariant
      (read_as _ _ _ c.in-Ok-false.field-0 false c.in-Ok-false.field-0-test c.in-Ok-false.ensures) (λ ls h. h);
  refused = tt;
}

pub returns-in_default : goal.returns-in_default
returns-in_default g c = record {
  added = tt;
  refused =
      stops (λ before. AreAdded c.args.counts.now c.loop-number.counts before) (IsBadRow c.loop-number.number c.next_line.new.line.items)
      (g.R.Read.remaining c.args.input.now) (g.R.Read.remaining c.loop-number.input) (g.R.Read.remaining c.next_line.new.input) c.loop-number.number
      c.next_line.new.line.items c.loop-number.invariant
      (read_as _ _ _ c.in-Ok-true.field-0 true c.in-Ok-true.field-0-test c.in-Ok-true.ensures)
      (line_is_bad c.loop-number.number c.args.counts.now c.loop-number.counts c.next_line.new.line.items c.deref.result.now c.deref.ensures.value
      c.in_default.ensures.none);
}

pub returns-in-Err : goal.returns-in-Err
returns-in-Err g c = record { added = tt; refused = nothing_told (g.R.Read.remaining c.args.input.now) }

pub returns-in-Err-add_count : goal.returns-in-Err-add_count
returns-in-Err-add_count g c = record { added = tt; refused = nothing_told (g.R.Read.remaining c.args.input.now) }

pub returns : goal.returns
returns g c = record { added = tt; refused = nothing_told (g.R.Read.remaining c.args.input.now) }
