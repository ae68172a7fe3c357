use Rattle.std.proofs.Common.{subst}
use Rattle.art_iterating.specs.MapItems.{ShowsFirst}
use Rattle.art_sets.specs.SetAlgebra.{has_equal}
use Rattle.art_sets.proofs.SetSides.{all_pass}
use Rattle.art_sets.proofs.set.ByteSet.is_subset.Goals as goal

pub returns : goal.returns
returns g c =
    all_pass (has_equal g.K.AsBytes.bytes c.args.other.now) c.args.self.now c.next.result c.next.new.self c.is_none.result
    (subst (λ keys. ShowsFirst keys c.next.result c.next.new.self) c.difference-lacking.ensures c.next.ensures.steps) c.is_none.ensures
