use Rattle.std.proofs.Common.{subst}
use Rattle.art_inner.specs.Indexed.{indexed_at}
use Rattle.art_inner.specs.Inner.{IsAbove}
use Rattle.art_inner.proofs.BesideLemmas.{some_other}
use Rattle.art_inner.proofs.Extent.{listed_above}
use Rattle.art_inner.proofs.indexed.IndexedChildTable.beside.Goals as goal

pub nearest-requires : goal.nearest-requires
nearest-requires c =
    some_other c.args.self.now c.args.byte (subst (IsAbove 256) c.self.view_is
    (listed_above (indexed_at c.self.inside.slots c.self.inside.kinds c.self.inside.index)))
    c.requires.some c.requires.absent
