use Rattle.std.proofs.Common.{List, ℕ, ◌++◌, filter, map}
use Rattle.text_programs.specs.WordCounts.{HasTimes}
use Rattle.text_programs.specs.Words.{is_filled}
use Rattle.text_programs.proofs.word_counts.counts.count_line.Given as goal

-- the words among the parts so far are counted
abbrev pub invariant-loop-word : goal.invariant-loop-word
invariant-loop-word l =
    (before : List (List ℕ)) → HasTimes before l.initial.counts → HasTimes (before ++ filter is_filled (map (λ w. w.now) l.yielded)) l.counts
