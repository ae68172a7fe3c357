use Rattle.std.proofs.Common.{true, false, flat_map}
use Rattle.text_lines.proofs.LineParts.{read_as}
use Rattle.text_lines.proofs.Reading.{begins, ends, goes_on}
use Rattle.text_programs.specs.Words.{words}
use Rattle.text_programs.proofs.WordLines.{AreCounted, none_counted, one_line_more, text_counted}
use Rattle.text_programs.proofs.word_counts.counts.count_text.Goals as goal

pub loop-number-init : goal.loop-number-init
loop-number-init g c =
    begins (λ before. AreCounted c.args.counts.now c.args.counts.now (flat_map words before)) (g.R.Read.remaining c.args.input.now)
    (none_counted c.args.counts.now)

pub loop-number-preserved : goal.loop-number-preserved
loop-number-preserved g c =
    goes_on (λ before. AreCounted c.args.counts.now c.loop-number.counts (flat_map words before))
    (λ before. AreCounted c.args.counts.now c.count_line.new.counts (flat_map words before))
    (g.R.Read.remaining c.args.input.now) (g.R.Read.remaining c.loop-number.input) (g.R.Read.remaining c.next_line.new.input) c.loop-number._number
    c.next_line.new.line.items c.loop-number.invariant (read_as _ _ _ c.in_ok-next_line.field-0 true c.if-not-branch.false c.in_ok-next_line.ensures)
    (one_line_more c.args.counts.now c.loop-number.counts c.count_line.new.counts c.loop-number._number c.next_line.new.line.items c.deref.result.now
    c.deref.ensures.value c.in_ok-count_line.ensures)

pub returns-then-not-branch : goal.returns-then-not-branch
returns-then-not-branch g c =
    text_counted (g.R.Read.remaining c.args.input.now) c.args.counts.now c.loop-number.counts
    (ends (λ before. AreCounted c.args.counts.now c.loop-number.counts (flat_map words before))
    (λ ls. AreCounted c.args.counts.now c.loop-number.counts (flat_map words ls))
    (g.R.Read.remaining c.args.input.now) (g.R.Read.remaining c.loop-number.input) (g.R.Read.remaining c.next_line.new.input) c.loop-number._number
    c.next_line.new.line.items c.loop-number.invariant (read_as _ _ _ c.in_ok-next_line.field-0 false c.if-not-branch.true c.in_ok-next_line.ensures)
    (λ ls h. h))
