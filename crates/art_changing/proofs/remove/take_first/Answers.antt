use Rattle.std.proofs.Common.{rules}
use Rattle.art_model.specs.Pairs.{first_of, of_key}
use Rattle.art_changing.specs.MapPairs.{pairs_at}
use Rattle.art_changing.proofs.MapPuts.{at_some, canonical_root}
use Rattle.art_changing.proofs.Takings.{first_goes, point_taken}
use Rattle.art_changing.proofs.remove.take_first.Goals as goal

pub find_minimum_to_delete-point-requires : goal.find_minimum_to_delete-point-requires
find_minimum_to_delete-point-requires g c = (search rules, canonical_root c.in-Some.is c.requires)

pub returns : goal.returns
returns g c =
    let pairs = pairs_at c.args.store.now c.args.root.now in
    let has = at_some c.in-Some.is c.requires in
    point_taken g.K.AsBytes.bytes g.row.P has.layout pairs c.find_minimum_to_delete-point.result (first_of pairs) (c.find_minimum_to_delete-point.ensures.point pairs has.layout has.by)
    (λ x e. first_goes (of_key g.K.AsBytes.bytes) pairs x has.by.is_map e) (c.take_pair.ensures pairs has.layout has.by)
