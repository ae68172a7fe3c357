use Rattle.std.proofs.Common.{◌≡◌, ◌++◌, map}
use Rattle.text_programs.proofs.word_counts.top.rows_of.Given as goal

-- the counts so far, and those that are left, are all
abbrev pub invariant-loop-word : goal.invariant-loop-word
invariant-loop-word l = map (λ row. (row.1.now, row.0.0)) l.rows.items ++ l.word-iterator ≡ l.initial.counts
