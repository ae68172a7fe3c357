use Rattle.std.proofs.Common.{ap}
use Rattle.art_model.specs.Pairs.{of_key, remove_key, remove_reply}
use Rattle.art_writing.proofs.KeysFound.{removed_key, removes_none}
use Rattle.art_changing.specs.MapPairs.{pairs_at}
use Rattle.art_changing.proofs.MapPuts.{at_some}
use Rattle.art_changing.proofs.Takings.{nothing_taken, point_taken}
use Rattle.art_changing.proofs.remove.take_key.Goals as goal

pub returns-in_default-search_for_delete_point_by_lengths : goal.returns-in_default-search_for_delete_point_by_lengths
returns-in_default-search_for_delete_point_by_lengths g c =
    let B = of_key g.K.AsBytes.bytes in
    let key = g.Q.KeyBytes.key c.args.query in
    let pairs = pairs_at c.args.store.now c.args.root.now in
    let has = at_some c.in-Some.is c.requires in
    nothing_taken g.K.AsBytes.bytes g.row.P has.layout (remove_reply B key pairs)
    (c.in_default-search_for_delete_point_by_lengths.ensures.point pairs has.layout has.by) (removes_none B key pairs) c.requires

pub returns : goal.returns
returns g c =
    let B = of_key g.K.AsBytes.bytes in
    let key = g.Q.KeyBytes.key c.args.query in
    let pairs = pairs_at c.args.store.now c.args.root.now in
    let has = at_some c.in-Some.is c.requires in
    point_taken g.K.AsBytes.bytes g.row.P has.layout pairs c.in-Some-search_for_delete_point_by_lengths.point (remove_reply B key pairs)
    (c.in-Some-search_for_delete_point_by_lengths.ensures.point pairs has.layout has.by)
    (λ x e. ap (λ k. remove_key B k pairs) (removed_key B key pairs x e)) (c.take_pair.ensures pairs has.layout has.by)
