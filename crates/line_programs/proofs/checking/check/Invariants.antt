use Rattle.std.proofs.Common.{[], IfSome}
use Rattle.text_lines.proofs.Reading.{IsReadTo}
use Rattle.line_programs.specs.Checked.{AreChecked}
use Rattle.line_programs.specs.Entries.{entries}
use Rattle.line_programs.proofs.checking.check.Given as goal

-- the entries of the lines that were read are checked
abbrev pub invariant-loop-number : goal.invariant-loop-number
invariant-loop-number g l =
    IfSome (g.R.Read.remaining l.initial.input)
    (λ text. IsReadTo (λ before. AreChecked g.T.LineTable.IsFaultAfter g.T.Fault.Display.output l.fn.place (g.T.LineTable.HasLines l.table) []
    (entries g.T.LineTable.entry_of 1 before) l.is_whole (g.E.Write.contents l.initial.errors) (g.E.Write.contents l.errors))
    text (g.R.Read.remaining l.input) l.number)
