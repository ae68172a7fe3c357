use Rattle.text_lines.proofs.Writing.{AreWritten}
use Rattle.text_programs.specs.PathReplies.{path_line}
use Rattle.text_programs.proofs.PathReplyLemmas.{AreFound}
use Rattle.text_programs.proofs.path_indexes.answers.write_paths.Given as goal

-- the paths so far are written, and it is known whether there is one
abbrev pub invariant-loop-path : goal.invariant-loop-path
invariant-loop-path g l =
    AreWritten (λ x. path_line x.0) l.fn.part l.path-iterator (g.W.Write.contents l.initial.output) (g.W.Write.contents l.output)
    × AreFound l.is_found l.fn.part l.path-iterator
