use Rattle.std.proofs.Common.{◌+◌, codes, refl}
use Rattle.std.proofs.lemmas.Grind.{put_two}
use Rattle.art_engine.specs.NodeLines.{indent}
use Rattle.art_engine.proofs.NodeRows.{indent_more}
use Rattle.art_engine.proofs.nodes.LineStartDisplay.fmt.Goals as goal

pub loop-preserved : goal.loop-preserved
loop-preserved g c = λ plain.
    let so_far = c.loop.invariant plain in
    let more = c.in_ok-write_str.ensures.writes so_far.plain refl in
    put_two g.W.Write.write_str_gives c.args.f.now c.loop.f c.write_str.new.self (indent c.loop.counter) (codes "  ")
    (indent (c.loop.counter + 1)) so_far more (indent_more c.loop.counter)
