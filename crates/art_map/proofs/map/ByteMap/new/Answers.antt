use Rattle.art_model.specs.Prelude.{of_key}
use Rattle.art_changing.proofs.ViewsOfPairs.{holds, view_of, new_holds}
use Rattle.art_map.proofs.map.ByteMap.new.Goals as goal

pub invariant_of-result : goal.invariant_of-result
invariant_of-result g c =
    holds (of_key g.K.AsBytes.bytes) g.row.P c.new.result
    (new_holds c.new.result c.new.ensures.leaves c.new.ensures.inners (of_key g.K.AsBytes.bytes) g.row.P)

pub returns : goal.returns
returns g c = view_of (of_key g.K.AsBytes.bytes) g.row.P c.new.result
    (new_holds c.new.result c.new.ensures.leaves c.new.ensures.inners (of_key g.K.AsBytes.bytes) g.row.P)
