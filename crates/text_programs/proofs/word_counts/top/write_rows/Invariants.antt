use Rattle.std.proofs.Common.{flat_map, map, take}
use Rattle.std.specs.Io.KnownBytes.{Appends}
use Rattle.text_programs.specs.WordCounts.{line_of}
use Rattle.text_programs.proofs.word_counts.top.write_rows.Given as goal

-- the lines of the rows so far are written
abbrev pub invariant-loop-row : goal.invariant-loop-row
invariant-loop-row g l =
    Appends (g.W.Write.contents l.initial.output) (g.W.Write.contents l.output) (flat_map line_of (map (λ row. (row.1.now, row.0.0)) (take l.row-index l.rows)))
