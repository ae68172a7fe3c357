use Rattle.art_map.proofs.Results.{over_holds, tells_over}
use Rattle.art_map.proofs.map.ByteMap.insert_over.Goals as goal

pub invariant_of-self : goal.invariant_of-self
invariant_of-self g c =
    over_holds g.K.AsBytes.bytes g.row.P _ c.put_over.new.store c.put_over.new.root c.put_over.new.len _ _
    c.put_over.result c.put_over.ensures

pub returns : goal.returns
returns g c = let told = tells_over g.K.AsBytes.bytes g.row.P _ c.put_over.new.store c.put_over.new.root c.put_over.new.len _ _
    c.self.view_is c.put_over.result c.put_over.ensures in
    record { pairs = told.pairs; gone = told.gone; handed_back = told.handed_back; kept = told.kept; refused = told.refused }
