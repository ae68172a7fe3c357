use Rattle.art_inner.proofs.Extent.{moved_over}
use Rattle.art_inner.proofs.indexed.IndexedChildTable.of.Goals as goal

pub loop-byte-preserved : goal.loop-byte-preserved
loop-byte-preserved c = moved_over _ _ _ _ _ _ _ c.loop-byte.invariant c.in-Some.ensures.steps c.requires.rising c.write.ensures
