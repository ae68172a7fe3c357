use Rattle.std.proofs.Common.{◌∙◌}
use Rattle.art_model.specs.Prelude.{of_key}
use Rattle.art_changing.proofs.MapPuts.{stays}
use Rattle.art_changing.proofs.ViewsOfPairs.{holds, view_of}
use Rattle.art_map.proofs.map.ByteMap.shrink_to_fit.Goals as goal

pub invariant_of-self : goal.invariant_of-self
invariant_of-self g c =
    let bytes = of_key g.K.AsBytes.bytes in
    let shrunk = c.shrink_to_fit.ensures in
    holds bytes g.row.P c.shrink_to_fit.new.self
    (stays bytes g.row.P c.self.inside.store c.shrink_to_fit.new.self shrunk.leaves shrunk.inners c.self.invariant)

pub returns : goal.returns
returns g c =
    let bytes = of_key g.K.AsBytes.bytes in
    let shrunk = c.shrink_to_fit.ensures in
    record {
      same = view_of bytes g.row.P c.shrink_to_fit.new.self
          (stays bytes g.row.P c.self.inside.store c.shrink_to_fit.new.self shrunk.leaves shrunk.inners c.self.invariant) ∙ c.self.view_is;
    }
