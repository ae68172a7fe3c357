use Rattle.art_map.proofs.Results.{below_holds, tells_below}
use Rattle.art_map.proofs.map.ByteMap.remove_prefix_by.Goals as goal

pub invariant_of-self : goal.invariant_of-self
invariant_of-self g c =
    below_holds g.K.AsBytes.bytes g.row.P _ c.take_all_below.new.store c.take_all_below.new.root c.take_all_below.new.len (g.B.KeyBytes.key c.args.prefix)
    c.take_all_below.result c.take_all_below.ensures

pub returns : goal.returns
returns g c =
    let (left, removed) =
    tells_below g.K.AsBytes.bytes g.row.P _ c.take_all_below.new.store c.take_all_below.new.root c.take_all_below.new.len (g.B.KeyBytes.key c.args.prefix)
    c.take_all_below.result c.take_all_below.ensures c.self.view_is in
    record { pairs = left; removed = removed }
