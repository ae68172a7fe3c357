use Rattle.std.proofs.Common.{flat_map, subst, sym}
use Rattle.std.specs.Io.KnownBytes.{Appends}
use Rattle.std.proofs.lemmas.Result.{on_ok_weaker}
use Rattle.line_programs.specs.Json.{escape, string_byte}
use Rattle.line_programs.proofs.JsonLemmas.{escaped, left_goes_on, plain_stays}
use Rattle.line_programs.proofs.json.write_bytes.Goals as goal

pub loop-plain-preserved : goal.loop-plain-preserved
loop-plain-preserved g c =
    left_goes_on (g.W.Write.contents c.args.output.now) (g.W.Write.contents c.loop-plain.output) (g.W.Write.contents c.write_all.new.self)
    (g.W.Write.contents c.write_escape.new.output)
    (flat_map (string_byte c.args.in_utf8) c.args.bytes.now) (flat_map (string_byte c.args.in_utf8) c.loop-plain.left.now)
    c.in-Some.plain.now (escape c.in-Some.byte) (flat_map (string_byte c.args.in_utf8) c.in-Some.others.now) c.loop-plain.invariant
    (escaped c.args.in_utf8 c.loop-plain.left.now c.in-Some.plain.now c.in-Some.byte c.in-Some.others.now
    c.in-Some.ensures.parts c.in-Some.ensures.plain c.in-Some.ensures.escaped)
    c.in_ok-write_all.ensures.bytes c.in_ok-write_escape.ensures

pub returns : goal.returns
returns g c =
    on_ok_weaker c.write_all-2.result
    (λ written. c.loop-plain.invariant (g.W.Write.contents c.write_all-2.new.self)
    (subst (Appends (g.W.Write.contents c.loop-plain.output) (g.W.Write.contents c.write_all-2.new.self))
    (sym (plain_stays c.args.in_utf8 c.loop-plain.left.now c.in_default.ensures.none)) written))
    c.write_all-2.ensures.bytes
