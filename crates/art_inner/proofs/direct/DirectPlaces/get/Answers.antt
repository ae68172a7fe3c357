use Rattle.std.proofs.Common.{sym, ap, ◌∙◌}
use Rattle.art_inner.specs.Inner.{child_at}
use Rattle.art_inner.specs.Direct.{direct_at}
use Rattle.art_inner.proofs.Extent.{listed_at}
use Rattle.art_inner.proofs.direct.DirectPlaces.get.Goals as goal

pub returns : goal.returns
returns c =
    c.name_in.ensures
    ∙ sym (listed_at (direct_at c.self.inside.slots c.self.inside.places) c.args.byte c.ranges.byte.fits)
    ∙ ap (λ cs. child_at cs c.args.byte) c.self.view_is
