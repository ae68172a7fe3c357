use Rattle.std.proofs.Common.{IfSome, flat_map}
use Rattle.text_lines.proofs.Reading.{IsReadTo}
use Rattle.text_programs.specs.Words.{words}
use Rattle.text_programs.proofs.WordLines.{AreCounted}
use Rattle.text_programs.proofs.word_counts.counts.count_text.Given as goal

-- the words of the lines that were read are counted
abbrev pub invariant-loop-number : goal.invariant-loop-number
invariant-loop-number g l = IfSome (g.R.Read.remaining l.initial.input)
    (λ text. IsReadTo (λ before. AreCounted l.initial.counts l.counts (flat_map words before)) text (g.R.Read.remaining l.input) l._number)
