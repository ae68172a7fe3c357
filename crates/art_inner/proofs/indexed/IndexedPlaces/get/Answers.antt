use Rattle.std.proofs.Common.{sym, ap, ◌∙◌, get_or}
use Rattle.art_inner.specs.Inner.{child_at}
use Rattle.art_inner.specs.Indexed.{indexed_at, numbered}
use Rattle.art_inner.proofs.Extent.{listed_at}
use Rattle.art_inner.proofs.IndexedLemmas.{numbered_some}
use Rattle.art_inner.proofs.indexed.IndexedPlaces.get.Goals as goal

pub returns-then-place-eq0 : goal.returns-then-place-eq0
returns-then-place-eq0 c =
    sym (listed_at (indexed_at c.self.inside.slots c.self.inside.kinds c.self.inside.index) c.args.byte c.ranges.byte.fits
    ∙ ap (numbered c.self.inside.slots c.self.inside.kinds) c.if-place-eq0.true)
    ∙ ap (λ cs. child_at cs c.args.byte) c.self.view_is

pub returns : goal.returns
returns c =
    sym (listed_at (indexed_at c.self.inside.slots c.self.inside.kinds c.self.inside.index) c.args.byte c.ranges.byte.fits
    ∙ numbered_some c.self.inside.slots c.self.inside.kinds (get_or c.self.inside.index c.args.byte 0) c.if-place-eq0.false)
    ∙ ap (λ cs. child_at cs c.args.byte) c.self.view_is
