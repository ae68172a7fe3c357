use Rattle.std.proofs.Common.{◌∙◌}
use Rattle.std.specs.Cmp.Lexicographic.{slice_cmp}
use Rattle.art_sets.proofs.SetOrders.{order_of_keys}
use Rattle.art_sets.proofs.set.compared.ByteSetOrd.cmp.Goals as goal

pub returns : goal.returns
returns g c =
    c.cmp.ensures ∙ order_of_keys g.K.Ord.cmp c.self.inside.map c.other.inside.map
    ∙ (λ i. slice_cmp g.K.Ord.cmp (c.self.view_is i) (c.other.view_is i))
