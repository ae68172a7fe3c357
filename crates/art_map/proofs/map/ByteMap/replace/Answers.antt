use Rattle.art_map.proofs.Results.{replaced_holds, tells_replaced}
use Rattle.art_map.proofs.map.ByteMap.replace.Goals as goal

pub invariant_of-self : goal.invariant_of-self
invariant_of-self g c =
    replaced_holds g.K.AsBytes.bytes g.row.P _ c.replace_in.new.store c.replace_in.new.root c.replace_in.new.len _ _ c.replace_in.result
    c.replace_in.ensures

pub returns : goal.returns
returns g c =
    let told = tells_replaced g.K.AsBytes.bytes g.row.P _ c.replace_in.new.store c.replace_in.new.root c.replace_in.new.len _ _
    c.self.view_is c.replace_in.result c.replace_in.ensures in
    record { pairs = told.pairs; replaced = told.replaced; accepted = told.accepted; refused = told.refused; kept = told.kept }
