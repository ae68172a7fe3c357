use Rattle.std.proofs.Common.{◌-◌, IfSome}
use Rattle.std.specs.Io.Buffered.{reader_remaining}
use Rattle.text_lines.proofs.Reading.{IsReadTo}
use Rattle.line_programs.proofs.ServeLemmas.{AreAnsweredSoFar}
use Rattle.line_programs.proofs.serving.answer_lines.Given as goal

-- the lines that were read were answered
abbrev pub invariant-loop-number : goal.invariant-loop-number
invariant-loop-number g l =
    IfSome (reader_remaining g.R.Read.remaining l.initial.input)
    (λ text. IsReadTo
    (AreAnsweredSoFar (g.T.LineTable.IsReplyTo l.table) (g.T.LineTable.Finds l.table) g.T.LineTable.AsksForNothing l.fn.rules
    l.worst (g.W.Write.contents l.initial.output) (g.W.Write.contents l.output) (g.E.Write.contents l.initial.errors) (g.E.Write.contents l.errors))
    text (reader_remaining g.R.Read.remaining l.input) l.number)

abbrev pub decreases-loop-number : goal.decreases-loop-number
decreases-loop-number g l = 18446744073709551615 - l.number
