use Rattle.std.proofs.Common.{◌≤◌, length, subst}
use Rattle.art_inner.specs.Inner.{IsAbove, IsRising}
use Rattle.art_inner.specs.Direct.{direct_at}
use Rattle.art_inner.proofs.Extent.{listed_rising, listed_above, listed_bound}
use Rattle.art_inner.proofs.direct.DirectChildTable.iter.Goals as goal

pub of_direct-requires-clause-rising : goal.of_direct-requires-clause-rising
of_direct-requires-clause-rising c = subst IsRising c.self.view_is (listed_rising (direct_at c.self.inside.slots c.self.inside.places))

pub of_direct-requires-clause-bytes : goal.of_direct-requires-clause-bytes
of_direct-requires-clause-bytes c = subst (IsAbove 256) c.self.view_is (listed_above (direct_at c.self.inside.slots c.self.inside.places))

pub returns-clause-rising : goal.returns-clause-rising
returns-clause-rising c = subst IsRising c.self.view_is (listed_rising (direct_at c.self.inside.slots c.self.inside.places))

pub returns-clause-bound : goal.returns-clause-bound
returns-clause-bound c = subst (λ cs. length cs ≤ 256) c.self.view_is (listed_bound (direct_at c.self.inside.slots c.self.inside.places))
