use Rattle.std.proofs.Common.{sym}
use Rattle.art_model.specs.Pairs.{first_of, of_key}
use Rattle.art_model.specs.Parts.{below}
use Rattle.art_changing.specs.MapPairs.{pairs_at}
use Rattle.art_changing.proofs.MapPuts.{at_some}
use Rattle.art_changing.proofs.PartsOut.{first_below, nothing_out}
use Rattle.art_changing.proofs.Takings.{nothing_taken, point_taken}
use Rattle.art_changing.proofs.remove.take_below.Goals as goal

pub returns-in_default-search_for_first_delete_point_below : goal.returns-in_default-search_for_first_delete_point_below
returns-in_default-search_for_first_delete_point_below g c =
    let B = of_key g.K.AsBytes.bytes in
    let pairs = pairs_at c.args.store.now c.args.root.now in
    let has = at_some c.in-Some.is c.requires in
    nothing_taken g.K.AsBytes.bytes g.row.P has.layout (first_of (below B c.args.prefix.now pairs))
    (c.in_default-search_for_first_delete_point_below.ensures.point pairs has.layout has.by)
    (λ none. nothing_out B c.args.prefix.now pairs (sym none)) c.requires

pub returns : goal.returns
returns g c =
    let B = of_key g.K.AsBytes.bytes in
    let pairs = pairs_at c.args.store.now c.args.root.now in
    let has = at_some c.in-Some.is c.requires in
    point_taken g.K.AsBytes.bytes g.row.P has.layout pairs c.in-Some-search_for_first_delete_point_below.point (first_of (below B c.args.prefix.now pairs))
    (c.in-Some-search_for_first_delete_point_below.ensures.point pairs has.layout has.by)
    (λ x e. (first_below B c.args.prefix.now pairs x has.by.is_map e).1) (c.take_pair.ensures pairs has.layout has.by)
