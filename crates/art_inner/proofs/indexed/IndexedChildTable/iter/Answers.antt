use Rattle.std.proofs.Common.{subst}
use Rattle.art_inner.specs.Inner.{IsAbove, IsRising}
use Rattle.art_inner.specs.Indexed.{indexed_at}
use Rattle.art_inner.proofs.Extent.{listed_rising, listed_above}
use Rattle.art_inner.proofs.indexed.IndexedChildTable.iter.Goals as goal

pub of_indexed-requires-clause-rising : goal.of_indexed-requires-clause-rising
of_indexed-requires-clause-rising c = subst IsRising c.self.view_is (listed_rising (indexed_at c.self.inside.slots c.self.inside.kinds c.self.inside.index))

pub of_indexed-requires-clause-bytes : goal.of_indexed-requires-clause-bytes
of_indexed-requires-clause-bytes c = subst (IsAbove 256) c.self.view_is (listed_above (indexed_at c.self.inside.slots c.self.inside.kinds c.self.inside.index))

pub returns-clause-rising : goal.returns-clause-rising
returns-clause-rising c = subst IsRising c.self.view_is (listed_rising (indexed_at c.self.inside.slots c.self.inside.kinds c.self.inside.index))
