use Rattle.art_building.proofs.Built.{seen_holds}
use Rattle.art_changing.proofs.ViewsOfPairs.{new_holds, view_of}
use Rattle.art_model.specs.Pairs.{of_key}
use Rattle.art_building.proofs.byte_map.MapBuilder.new.Goals as goal

pub invariant_of-result : goal.invariant_of-result
invariant_of-result g c = seen_holds (record {
  held = new_holds c.new.result c.new.ensures.leaves c.new.ensures.inners (of_key g.K.AsBytes.bytes) g.row.P;
  edge_is = tt;
})

pub returns : goal.returns
returns g c = view_of (of_key g.K.AsBytes.bytes) g.row.P c.new.result
    (new_holds c.new.result c.new.ensures.leaves c.new.ensures.inners (of_key g.K.AsBytes.bytes) g.row.P)
