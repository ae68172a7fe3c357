use Rattle.std.proofs.Common.{◌≡◌, rules, ◌∙◌}
use Rattle.std.specs.Vec.{vec_items}
use Rattle.std.proofs.lemmas.Iterator.{YieldsList-from_map, items_from_collect}
use Rattle.std.proofs.lemmas.Iterator.Adapters.{YieldsList-from_vec}
use Rattle.std.proofs.lemmas.Iterator.Consumers.{YieldsList-at}
use Rattle.std.proofs.lemmas.Result.{IfOk-at_ok}
use Rattle.art_sets.specs.SetKeys.{as_pairs}
use Rattle.art_building.proofs.Unsorted.{as_keys}
use Rattle.art_building.proofs.tree_map.TreeMapBuilder+K+unit+P.from_unsorted_keys.Goals as goal

pub returns : goal.returns
returns g c =
    let keys = c.args.keys in
    let given = YieldsList-from_vec keys.items c.into_iter.ensures.rest (c.into_iter.ensures.len ∙ keys.ok.0) in
    let mapped = YieldsList-from_map _ (λ (key : g.row.K.Denot). (key, tt)) (YieldsList-at c.map.ensures.source given) c.map.ensures.closure (λ x r q k. search rules) in
    let is : c.in_ok-pairs.pairs.items ≡ as_pairs keys.items = IfOk-at_ok (λ pairs. vec_items pairs ≡ as_pairs keys.items) c.in_ok-pairs.was
    (items_from_collect c.collect.result c.collect.ensures.ran mapped) in
    as_keys g.K.NoPrefixesBytes.is_key g.K.AsBytes.bytes g.met.K.NoPrefixesBytes.no_prefixes keys.items c.in_ok-pairs.pairs.items is
    c.from_unsorted.result c.from_unsorted.ensures.pairs c.from_unsorted.ensures.known
