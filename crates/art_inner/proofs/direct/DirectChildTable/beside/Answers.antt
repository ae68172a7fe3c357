use Rattle.std.proofs.Common.{◌<◌, ◌≤◌, ◌∙◌, ap, length, subst}
use Rattle.art_inner.specs.Direct.{direct_at}
use Rattle.art_inner.specs.Inner.{IsAbove, child_at}
use Rattle.art_inner.proofs.BesideLemmas.{listed_few, some_other}
use Rattle.art_inner.proofs.Extent.{listed_above, listed_bound}
use Rattle.art_inner.proofs.direct.DirectChildTable.beside.Goals as goal

pub nearest-requires : goal.nearest-requires
nearest-requires c =
    some_other c.args.self.now c.args.byte (subst (IsAbove 256) c.self.view_is (listed_above (direct_at c.self.inside.slots c.self.inside.places)))
    c.requires.some c.requires.absent

pub returns-clause-bound : goal.returns-clause-bound
returns-clause-bound c = subst (λ cs. length cs ≤ 256) c.self.view_is (listed_bound (direct_at c.self.inside.slots c.self.inside.places))

pub returns-clause-few : goal.returns-clause-few
returns-clause-few c =
    let none = ap (λ cs. child_at cs c.args.byte) c.self.view_is ∙ c.requires.absent in
    subst (λ cs. length cs < 256) c.self.view_is
    (listed_few (direct_at c.self.inside.slots c.self.inside.places) c.args.byte c.nearest.result.1 c.ranges.byte.fits none)
