use Rattle.std.proofs.Common.{flat_map, length}
use Rattle.line_programs.specs.Json.{string_byte}
use Rattle.line_programs.proofs.JsonLemmas.{IsLeft}
use Rattle.line_programs.proofs.json.write_bytes.Given as goal

abbrev pub invariant-loop-plain : goal.invariant-loop-plain
invariant-loop-plain g l =
    IsLeft (g.W.Write.contents l.initial.output) (g.W.Write.contents l.output)
    (flat_map (string_byte l.fn.in_utf8) l.fn.bytes) (flat_map (string_byte l.fn.in_utf8) l.left)

abbrev pub decreases-loop-plain : goal.decreases-loop-plain
decreases-loop-plain g l = length l.left
