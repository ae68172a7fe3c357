use Rattle.art_model.specs.Prelude.{of_key, remove_key, remove_reply}
use Rattle.art_map.proofs.Results.{taken_holds, tells_taken}
use Rattle.art_changing.proofs.ViewsOfPairs.{view_sorted}
use Rattle.art_map.proofs.map.ByteMap.remove_by.Goals as goal

pub invariant_of-self : goal.invariant_of-self
invariant_of-self g c =
    let key = g.Q.KeyBytes.key c.args.query in
    taken_holds g.K.AsBytes.bytes g.row.P _ _ _ _ (remove_reply (of_key g.K.AsBytes.bytes) key)
    (remove_key (of_key g.K.AsBytes.bytes) key) c.take_key.result c.take_key.ensures

pub returns : goal.returns
returns g c =
    let key = g.Q.KeyBytes.key c.args.query in
    let (left, removed) = tells_taken g.K.AsBytes.bytes g.row.P _ _ _ _ (remove_reply (of_key g.K.AsBytes.bytes) key)
    (remove_key (of_key g.K.AsBytes.bytes) key) c.take_key.result c.take_key.ensures c.self.view_is in
    record { pairs = left; removed = removed; was_sorted = view_sorted (of_key g.K.AsBytes.bytes) g.row.P c.self.inside.store c.self.invariant c.self.view_is }
