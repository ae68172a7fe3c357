use Rattle.std.proofs.Common.{◌≤◌, IfSome, length, subst}
use Rattle.art_sets.specs.SetAlgebra.{byte_order}
use Rattle.art_sets.proofs.SetSides.{bounded, up_to}
use Rattle.art_sets.proofs.set.algebra.MergedOfIterator.size_hint.Goals as goal

pub returns-clause-upper : goal.returns-clause-upper
returns-clause-upper g c =
    let most =
    bounded (byte_order g.K.AsBytes.bytes) c.self.inside.keeps_equal c.self.inside.left c.self.inside.right c.count.result
    c.count-2.result c.sum.result
    c.count.ensures c.count-2.ensures c.sum.ensures in
    up_to _ c.sum.result (subst (λ keys. IfSome c.sum.result (λ most. length keys ≤ most)) c.self.view_is most)
