use Rattle.std.proofs.Common.{rules, refl, subst, sym, Some, None}
use Rattle.std.specs.Range.Bound.{bound_map}
use Rattle.art_model.specs.Prelude.{of_key, remove_reply, is_between}
use Rattle.art_reading.proofs.PartNodes.{some_there}
use Rattle.art_writing.proofs.KeysFound.{point_none, point_some}
use Rattle.art_changing.specs.PairChanges.{HasTaken}
use Rattle.art_iterating.specs.MapItems.{deref_pair}
use Rattle.art_changing.specs.MapPairs.{pairs_at}
use Rattle.art_map.specs.MapParts.{without}
use Rattle.art_map.proofs.FirstOut.{point_is_first, point_not_none}
use Rattle.art_changing.proofs.MapPuts.{at_some, canonical_root}
use Rattle.art_iterating.proofs.Ranges.{first_pair, no_first_pair}
use Rattle.art_map.proofs.map.split.take_between.Goals as goal

pub next-requires : goal.next-requires
next-requires g c =
    let has = at_some c.in-Some.is c.requires in
    (search rules, (_, c.range_unchecked.ensures _ has.layout has.by))

pub returns-in_default-next : goal.returns-in_default-next
returns-in_default-next g c =
    let B = of_key g.K.AsBytes.bytes in
    let pairs = pairs_at c.args.store.now c.args.root.now in
    let test = is_between (bound_map (λ b. b.now) c.args.from) (bound_map (λ b. b.now) c.args.to) in
    let has = at_some c.in-Some.is c.requires in
    let none = no_first_pair has.by (λ x. test (g.K.AsBytes.bytes x.0)) (c.in_default-next.ensures.leaf _ (c.range_unchecked.ensures _ has.layout has.by)) in
    subst (λ o. HasTaken g.K.AsBytes.bytes g.row.P o (without B o pairs) None c.args.store.now c.args.root.now c.args.len.now) none (c.requires, refl)

pub search_for_delete_point_by_lengths-requires : goal.search_for_delete_point_by_lengths-requires
search_for_delete_point_by_lengths-requires g c = (search rules, canonical_root c.in-Some.is c.requires)

pub unwrap-point-requires : goal.unwrap-point-requires
unwrap-point-requires g c =
    let B = of_key g.K.AsBytes.bytes in
    let pairs = pairs_at c.args.store.now c.args.root.now in
    let test = is_between (bound_map (λ b. b.now) c.args.from) (bound_map (λ b. b.now) c.args.to) in
    let has = at_some c.in-Some.is c.requires in
    let first =
    first_pair has.by (λ x. test (g.K.AsBytes.bytes x.0))
    (c.in-Some-next.ensures.leaf _ (c.range_unchecked.ensures _ has.layout has.by)) c.pair_at.ensures in
    some_there c.search_for_delete_point_by_lengths.result (λ none.
    point_not_none B test pairs (deref_pair c.pair_at.result) c.as_bytes-key_bytes.result.now has.by.is_map first c.as_bytes-key_bytes.ensures
    (point_none has.layout (remove_reply B c.as_bytes-key_bytes.result.now pairs)
    (rw (sym none) at (c.search_for_delete_point_by_lengths.ensures.point pairs has.layout has.by))))

pub returns : goal.returns
returns g c =
    let B = of_key g.K.AsBytes.bytes in
    let pairs = pairs_at c.args.store.now c.args.root.now in
    let test = is_between (bound_map (λ b. b.now) c.args.from) (bound_map (λ b. b.now) c.args.to) in
    let has = at_some c.in-Some.is c.requires in
    let first =
    first_pair has.by (λ x. test (g.K.AsBytes.bytes x.0))
    (c.in-Some-next.ensures.leaf _ (c.range_unchecked.ensures _ has.layout has.by)) c.pair_at.ensures in
    let (x, e, leads) =
    point_some has.layout c.unwrap-point.result (remove_reply B c.as_bytes-key_bytes.result.now pairs)
    (rw c.unwrap-point.ensures at (c.search_for_delete_point_by_lengths.ensures.point pairs has.layout has.by)) in
    let is_first =
    point_is_first B test pairs (deref_pair c.pair_at.result)
    c.as_bytes-key_bytes.result.now has.by.is_map first c.as_bytes-key_bytes.ensures x e in
    subst (λ o. HasTaken g.K.AsBytes.bytes g.row.P o (without B o pairs)
    (Some c.take_pair.result) c.take_pair.new.store c.take_pair.new.root c.take_pair.new.len) is_first
    (c.take_pair.ensures pairs has.layout has.by x leads)
