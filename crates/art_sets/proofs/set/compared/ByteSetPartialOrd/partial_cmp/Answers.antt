use Rattle.std.proofs.Common.{◌∙◌}
use Rattle.std.specs.Cmp.Lexicographic.{slice_partial_cmp}
use Rattle.art_sets.proofs.SetOrders.{partial_order_of_keys}
use Rattle.art_sets.proofs.set.compared.ByteSetPartialOrd.partial_cmp.Goals as goal

pub returns : goal.returns
returns g c =
    c.partial_cmp.ensures ∙ partial_order_of_keys g.K.PartialOrd.partial_cmp c.self.inside.map c.other.inside.map
    ∙ (λ i. slice_partial_cmp g.K.PartialOrd.partial_cmp (c.self.view_is i) (c.other.view_is i))
