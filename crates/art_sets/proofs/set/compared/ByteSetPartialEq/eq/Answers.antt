use Rattle.std.proofs.Common.{◌∙◌}
use Rattle.std.specs.Cmp.Lexicographic.{pointwise}
use Rattle.art_sets.proofs.SetOrders.{same_keys}
use Rattle.art_sets.proofs.set.compared.ByteSetPartialEq.eq.Goals as goal

pub returns : goal.returns
returns g c =
    c.eq.ensures ∙ same_keys g.K.PartialEq.eq c.self.inside.map c.other.inside.map
    ∙ (λ i. pointwise g.K.PartialEq.eq (c.self.view_is i) (c.other.view_is i))
