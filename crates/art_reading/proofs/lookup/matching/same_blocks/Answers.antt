use Rattle.std.proofs.Common.{refl, arith}
use Rattle.art_reading.proofs.Blocks.{joined}
use Rattle.art_reading.proofs.lookup.matching.same_blocks.Goals as goal

pub loop-at-init : goal.loop-at-init
loop-at-init c = (omega arith, refl)

pub overflow_sub-end : goal.overflow_sub-end
overflow_sub-end c = c.loop-at.invariant.0

pub loop-at-smaller : goal.loop-at-smaller
loop-at-smaller c = omega (arith, c.loop-at-test.true)

pub loop-at-preserved : goal.loop-at-preserved
loop-at-preserved c = (
  omega (arith, c.loop-at.invariant.0, c.loop-at-test.true),
  joined c.loop-at.at 8 c.args.a.now c.args.b.now c.loop-at.invariant.1 (c.are_same.ensures.0 c.if-are_same.true),
)

pub returns-else-are_same-clause-same : goal.returns-else-are_same-clause-same
returns-else-are_same-clause-same c = c.loop-at.invariant.1

pub returns-after-loop-at-clause-within : goal.returns-after-loop-at-clause-within
returns-after-loop-at-clause-within c = c.loop-at.invariant.0

pub returns-after-loop-at-clause-same : goal.returns-after-loop-at-clause-same
returns-after-loop-at-clause-same c = c.loop-at.invariant.1
