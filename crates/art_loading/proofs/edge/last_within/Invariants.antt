use Rattle.std.proofs.Common.{length}
use Rattle.art_loading.proofs.StepsDown.{AreLeft}
use Rattle.art_loading.proofs.edge.last_within.Given as goal

abbrev pub invariant-up : goal.invariant-up
invariant-up l = AreLeft l.shared l.fn.steps l.rest

abbrev pub decreases-up : goal.decreases-up
decreases-up l = length l.rest
