use Rattle.text_lines.proofs.Writing.{AreWritten}
use Rattle.text_programs.specs.WordCounts.{line_of}
use Rattle.text_programs.proofs.word_counts.counts.write_counts.Given as goal

-- the lines of the pairs so far are written
abbrev pub invariant-loop-word : goal.invariant-loop-word
invariant-loop-word g l = AreWritten line_of l.initial.counts l.word-iterator (g.W.Write.contents l.initial.output) (g.W.Write.contents l.output)
