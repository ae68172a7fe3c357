use Rattle.std.proofs.Common.{rules, true, false, sym, ◌+◌, ◌∙◌, subst}
use Rattle.std.specs.Io.Buffered.{reader_remaining}
use Rattle.text_lines.proofs.LineParts.{read_as}
use Rattle.text_lines.proofs.Reading.{begins, ends, goes_on, stops}
use Rattle.art_engine.specs.declared.keeping.status.Ending.TheVariants.{Input, BadLine}
use Rattle.art_engine.specs.Served.{AreServed, AsksForNothing}
use Rattle.art_engine.proofs.Serving.{GoesOn, all_served, none_served, one_line_more, refused_here}
use Rattle.art_engine.proofs.engine.answer_lines.Goals as goal

pub loop-number-init : goal.loop-number-init
loop-number-init g c = (
  search rules,
  begins (GoesOn 1 c.args.tree.now c.args.tree.now (g.W.Write.contents c.args.output.now) (g.W.Write.contents c.args.output.now))
      (reader_remaining g.R.Read.remaining c.args.input.now) (none_served c.args.tree.now (g.W.Write.contents c.args.output.now)),
)

pub loop-number-preserved : goal.loop-number-preserved
loop-number-preserved g c = (
  c.in_ok-answer.ensures.kept,
  goes_on (GoesOn c.loop-number.number-counter c.args.tree.now c.loop-number.tree (g.W.Write.contents c.args.output.now)
      (g.W.Write.contents c.loop-number.output))
      (GoesOn (c.loop-number.number-counter + 1) c.args.tree.now c.answer.new.tree (g.W.Write.contents c.args.output.now)
      (g.W.Write.contents c.write_out.new.output))
      (reader_remaining g.R.Read.remaining c.args.input.now) (reader_remaining g.R.Read.remaining c.loop-number.input)
      (reader_remaining g.R.Read.remaining c.next_line.new.input) c.loop-number.number-counter c.next_line.new.line.items c.loop-number.invariant.1
      (read_as _ _ _ c.in_ok-next_line.field-0 true c.if-not-branch.false c.in_ok-next_line.ensures)
      (one_line_more c.loop-number.number-counter c.args.tree.now c.loop-number.tree (g.W.Write.contents c.args.output.now)
      (g.W.Write.contents c.loop-number.output) c.next_line.new.line.items
      c.in-Some.request c.answer.new.tree (g.W.Write.contents c.answer.new.output) (g.W.Write.contents c.write_out.new.output)
      (c.in-Some.ensures.small, sym c.deref.ensures.value ∙ c.in-Some.ensures.line) c.in_ok-answer.ensures.replied c.write_out.ensures),
)

pub returns-then-not-branch-clause-served : goal.returns-then-not-branch-clause-served
returns-then-not-branch-clause-served g c =
    ends (GoesOn c.loop-number.number-counter c.args.tree.now c.loop-number.tree (g.W.Write.contents c.args.output.now)
    (g.W.Write.contents c.loop-number.output))
    (λ ls. AreServed ls 1 c.args.tree.now c.loop-number.tree (g.W.Write.contents c.args.output.now) Input (g.W.Write.contents c.loop-number.output))
    (reader_remaining g.R.Read.remaining c.args.input.now) (reader_remaining g.R.Read.remaining c.loop-number.input)
    (reader_remaining g.R.Read.remaining c.next_line.new.input) c.loop-number.number-counter c.next_line.new.line.items c.loop-number.invariant.1
    (read_as _ _ _ c.in_ok-next_line.field-0 false c.if-not-branch.true c.in_ok-next_line.ensures)
    (all_served c.loop-number.number-counter c.args.tree.now c.loop-number.tree (g.W.Write.contents c.args.output.now)
    (g.W.Write.contents c.loop-number.output) c.next_line.new.line.items)

pub returns-in_default-clause-served : goal.returns-in_default-clause-served
returns-in_default-clause-served g c =
    stops (GoesOn c.loop-number.number-counter c.args.tree.now c.loop-number.tree (g.W.Write.contents c.args.output.now)
    (g.W.Write.contents c.loop-number.output))
    (λ ls. AreServed ls 1 c.args.tree.now c.loop-number.tree (g.W.Write.contents c.args.output.now) BadLine (g.W.Write.contents c.writeln.new.self))
    (reader_remaining g.R.Read.remaining c.args.input.now) (reader_remaining g.R.Read.remaining c.loop-number.input)
    (reader_remaining g.R.Read.remaining c.next_line.new.input) c.loop-number.number-counter c.next_line.new.line.items c.loop-number.invariant.1
    (read_as _ _ _ c.in_ok-next_line.field-0 true c.if-not-branch.false c.in_ok-next_line.ensures)
    (refused_here c.loop-number.number-counter c.args.tree.now c.loop-number.tree (g.W.Write.contents c.args.output.now)
    (g.W.Write.contents c.loop-number.output)
    c.next_line.new.line.items (g.W.Write.contents c.writeln.new.self)
    (subst AsksForNothing c.deref.ensures.value c.in_default.ensures.none) c.in_ok-writeln.ensures.bytes)
