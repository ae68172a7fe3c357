use Rattle.std.proofs.Common.{length}
use Rattle.line_programs.specs.Json.{json_strings, reply_lines}
use Rattle.line_programs.proofs.JsonLemmas.{IsLeft}
use Rattle.line_programs.proofs.json.write_lines.Given as goal

abbrev pub invariant-loop-left : goal.invariant-loop-left
invariant-loop-left g l =
    IsLeft (g.W.Write.contents l.initial.output) (g.W.Write.contents l.output)
    (json_strings (reply_lines l.fn.reply)) (json_strings (reply_lines l.left))

abbrev pub decreases-loop-left : goal.decreases-loop-left
decreases-loop-left g l = length l.left
