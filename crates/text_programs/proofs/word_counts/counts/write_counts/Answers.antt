use Rattle.std.proofs.Common.{◌∙◌}
use Rattle.text_lines.proofs.Writing.{writing_begins, writing_ends, writing_goes_on}
use Rattle.text_programs.specs.WordCounts.{line_of}
use Rattle.text_programs.proofs.word_counts.counts.write_counts.Goals as goal

pub loop-word-init : goal.loop-word-init
loop-word-init g c =
    writing_begins line_of c.args.counts.now c.into_iter-word-iterator.result (g.W.Write.contents c.args.output.now)
    (c.into_iter-word-iterator.ensures.into_iter_gives ∙ c.iter-word-items.ensures.pairs)

pub loop-word-preserved : goal.loop-word-preserved
loop-word-preserved g c =
    writing_goes_on line_of c.args.counts.now c.loop-word.word-iterator c.next.new.self (c.in-Some.word.now, c.in-Some.count.now)
    (g.W.Write.contents c.args.output.now) (g.W.Write.contents c.loop-word.output) (g.W.Write.contents c.write_count.new.output) c.loop-word.invariant
    c.in-Some.ensures.steps (rw (← c.as_bytes_without_end.ensures.text) c.in_ok-write_count.ensures)

pub returns : goal.returns
returns g c =
    writing_ends line_of c.args.counts.now c.loop-word.word-iterator (g.W.Write.contents c.args.output.now) (g.W.Write.contents c.loop-word.output)
    c.loop-word.invariant c.in-None.ensures.steps.0
