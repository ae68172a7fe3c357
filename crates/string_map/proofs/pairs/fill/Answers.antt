use Rattle.string_map.proofs.Fills.{fills_next}
use Rattle.string_map.proofs.pairs.fill.Goals as goal

pub loop-count-preserved : goal.loop-count-preserved
loop-count-preserved c =
    fills_next c.loop-count.invariant c.in-Some.ensures c.in-Some-write_at.ensures.end c.in-Some-write_at.ensures.text c.loop-count-test.true
