use Rattle.std.proofs.Common.{IfSome}
use Rattle.text_lines.specs.Lines.{pieces}
use Rattle.text_lines.proofs.Reading.{ArePartsReadTo}
use Rattle.line_programs.specs.Entries.{entries}
use Rattle.line_programs.proofs.reading.read.Given as goal

-- the table has the entries of the lines that were read
abbrev pub invariant-loop-number : goal.invariant-loop-number
invariant-loop-number g l =
    IfSome (g.R.Read.remaining l.initial.input)
    (λ text. ArePartsReadTo (pieces l.fn.end) (λ before. g.T.LineTable.HasLines l.table (entries g.T.LineTable.entry_of 1 before)) text (g.R.Read.remaining l.input) l.number)
