use Rattle.art_model.specs.Pairs.{last_of, of_key}
use Rattle.art_model.proofs.pairs.MapLaws.{last_is_removed_by_key}
use Rattle.art_changing.specs.MapPairs.{pairs_at}
use Rattle.art_changing.proofs.MapPuts.{at_some}
use Rattle.art_changing.proofs.Takings.{point_taken}
use Rattle.art_changing.proofs.remove.take_last.Goals as goal

pub returns : goal.returns
returns g c =
    let pairs = pairs_at c.args.store.now c.args.root.now in
    let has = at_some c.in-Some.is c.requires in
    point_taken g.K.AsBytes.bytes g.row.P has.layout pairs c.find_maximum_to_delete-point.result (last_of pairs) (c.find_maximum_to_delete-point.ensures.point pairs has.layout has.by)
    (λ x e. last_is_removed_by_key (of_key g.K.AsBytes.bytes) x pairs has.by.is_map e) (c.take_pair.ensures pairs has.layout has.by)
