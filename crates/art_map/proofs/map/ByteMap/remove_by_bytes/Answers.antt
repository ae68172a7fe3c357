use Rattle.art_model.specs.Prelude.{of_key, remove_key, remove_reply}
use Rattle.art_map.proofs.Results.{taken_holds, tells_taken}
use Rattle.art_map.proofs.map.ByteMap.remove_by_bytes.Goals as goal

pub invariant_of-self : goal.invariant_of-self
invariant_of-self g c =
    let key = g.B.KeyBytes.key c.args.bytes.now in
    taken_holds g.K.AsBytes.bytes g.row.P _ _ _ _ (remove_reply (of_key g.K.AsBytes.bytes) key)
    (remove_key (of_key g.K.AsBytes.bytes) key) c.take_bytes.result c.take_bytes.ensures.taken

pub returns : goal.returns
returns g c =
    let key = g.B.KeyBytes.key c.args.bytes.now in
    let (left, removed) = tells_taken g.K.AsBytes.bytes g.row.P _ _ _ _ (remove_reply (of_key g.K.AsBytes.bytes) key)
    (remove_key (of_key g.K.AsBytes.bytes) key) c.take_bytes.result c.take_bytes.ensures.taken c.self.view_is in
    record { pairs = left; removed = removed; same = c.take_bytes.ensures.same }
