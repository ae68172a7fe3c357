use Rattle.art_model.specs.Prelude.{first_of, of_key, below, without_below}
use Rattle.art_map.proofs.Results.{taken_holds, tells_taken}
use Rattle.art_changing.proofs.ViewsOfPairs.{view_sorted}
use Rattle.art_map.proofs.map.ByteMap.pop_first_below.Goals as goal

pub invariant_of-self : goal.invariant_of-self
invariant_of-self g c =
    let B = of_key g.K.AsBytes.bytes in
    taken_holds g.K.AsBytes.bytes g.row.P _ _ _ _ (λ pairs. first_of (below B c.args.prefix.now pairs))
    (without_below B c.args.prefix.now 1) c.take_below.result c.take_below.ensures

pub returns : goal.returns
returns g c =
    let B = of_key g.K.AsBytes.bytes in
    let (left, removed) =
    tells_taken g.K.AsBytes.bytes g.row.P _ _ _ _ (λ pairs. first_of (below B c.args.prefix.now pairs))
    (without_below B c.args.prefix.now 1) c.take_below.result c.take_below.ensures c.self.view_is in
    record { pairs = left; removed = removed; was_sorted = view_sorted (of_key g.K.AsBytes.bytes) g.row.P c.self.inside.store c.self.invariant c.self.view_is }
