use Rattle.std.proofs.Common.{IfSome}
use Rattle.text_lines.proofs.Reading.{IsReadTo}
use Rattle.text_programs.specs.Merged.{AreAdded}
use Rattle.text_programs.proofs.word_counts.merging.add_counts.Given as goal

-- the counts of the lines that were read are added
abbrev pub invariant-loop-number : goal.invariant-loop-number
invariant-loop-number g l =
    IfSome (g.R.Read.remaining l.initial.input)
    (λ text. IsReadTo (λ before. AreAdded l.initial.counts l.counts before) text (g.R.Read.remaining l.input) l.number)
