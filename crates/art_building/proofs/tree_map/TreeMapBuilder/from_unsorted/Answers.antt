use Rattle.std.proofs.Common.{ap, rules}
use Rattle.std.specs.Ordering.{is_lt}
use Rattle.std.proofs.lemmas.Cmp.{nat_list_cmp_total}
use Rattle.std.proofs.lemmas.List.Sorted.{answers_always, ranks_by}
use Rattle.art_building.proofs.Unsorted.{all_sorted, as_unsorted, known_unsorted}
use Rattle.art_building.proofs.tree_map.TreeMapBuilder.from_unsorted.Goals as goal

pub from_sorted-requires : goal.from_sorted-requires
from_sorted-requires g c =
    let B = g.K.AsBytes.bytes in
    let order = ranks_by nat_list_cmp_total (λ (x : g.row.K.Denot × g.row.V.Denot). B x.0) in
    let sorted = c.in_ok-sort_by.ensures.sorted _ order (answers_always _ _ _ (λ f a r f' k. ap is_lt k.met)) in
    (search rules, all_sorted B order c.sort_by.new.self.items sorted)

pub returns : goal.returns
returns g c =
    let B = g.K.AsBytes.bytes in
    let order = ranks_by nat_list_cmp_total (λ (x : g.row.K.Denot × g.row.V.Denot). B x.0) in
    let told = c.in_ok-sort_by.ensures in
    let stable = told.stable _ order (answers_always _ _ _ (λ f a r f' k. ap is_lt k.met)) in
    let law = g.met.K.NoPrefixesBytes.no_prefixes in
    record {
      pairs = as_unsorted B g.K.NoPrefixesBytes.is_key law c.args.pairs.items c.sort_by.new.self.items told.permutation stable
          c.from_sorted.result c.from_sorted.ensures.put c.from_sorted.ensures.keys;
      known = known_unsorted B g.K.NoPrefixesBytes.is_key law c.args.pairs.items c.sort_by.new.self.items told.permutation
          c.from_sorted.result c.from_sorted.ensures.keys;
    }
