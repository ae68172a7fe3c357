use Rattle.art_model.specs.Prelude.{of_key}
use Rattle.art_changing.proofs.ViewsOfPairs.{holds, view_of}
use Rattle.art_map.proofs.map.ByteMap.clear.Goals as goal

pub invariant_of-self : goal.invariant_of-self
invariant_of-self g c = holds (of_key g.K.AsBytes.bytes) g.row.P c.take_all.new.store c.take_all.ensures

pub returns : goal.returns
returns g c = view_of (of_key g.K.AsBytes.bytes) g.row.P c.take_all.new.store c.take_all.ensures
