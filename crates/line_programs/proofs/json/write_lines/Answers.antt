use Rattle.std.proofs.Common.{ap, ◌∙◌}
use Rattle.line_programs.specs.Json.{comma_before, json_string, json_strings, reply_lines}
use Rattle.line_programs.proofs.JsonLemmas.{left_goes_on, strings_parted}
use Rattle.line_programs.proofs.json.write_lines.Goals as goal

pub loop-left-preserved : goal.loop-left-preserved
loop-left-preserved g c =
    left_goes_on (g.W.Write.contents c.args.output.now) (g.W.Write.contents c.loop-left.output) (g.W.Write.contents c.write_string.new.output)
    (g.W.Write.contents c.write_comma.new.output)
    (json_strings (reply_lines c.args.reply.now)) (json_strings (reply_lines c.loop-left.left.now))
    (json_string c.split_line.result.0.now) (comma_before c.split_line.result.1.now) (json_strings (reply_lines c.split_line.result.1.now))
    c.loop-left.invariant (ap json_strings c.split_line.ensures.line ∙ strings_parted c.split_line.result.0.now c.split_line.result.1.now)
    c.in_ok-write_string.ensures c.in_ok-write_comma.ensures
