use Rattle.std.proofs.Common.{rules}
use Rattle.art_inner.proofs.Extent.{next_above, next_fits}
use Rattle.art_inner.proofs.table.TableChildTable.of.Goals as goal

pub push-requires : goal.push-requires
push-requires g c = (
  search rules,
  (
    next_fits _ _ _ _ _ _ _ c.loop-byte.invariant c.in-Some.ensures.steps c.requires.fit,
    next_above _ _ _ _ _ _ c.loop-byte.invariant c.in-Some.ensures.steps c.requires.rising,
  ),
)
