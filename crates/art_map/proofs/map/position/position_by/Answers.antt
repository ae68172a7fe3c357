use Rattle.std.proofs.Common.{◌≡◌, ap, refl, rules, sym, ◌∙◌, Some, true}
use Rattle.art_model.specs.Prelude.{is_conflict, of_key}
use Rattle.art_writing.proofs.KeysFound.{conflict_new}
use Rattle.art_changing.specs.MapPairs.{pairs_at}
use Rattle.art_map.proofs.EnteredLeaves.{leaf_of_point, point_new}
use Rattle.art_changing.proofs.MapPuts.{at_some}
use Rattle.art_changing.proofs.ViewsOfPairs.{map_held}
use Rattle.art_map.proofs.map.position.position_by.Goals as goal

pub returns-in_default-search_for_insert_point_by-clause-new : goal.returns-in_default-search_for_insert_point_by-clause-new
returns-in_default-search_for_insert_point_by-clause-new g c =
    let bytes = of_key g.K.AsBytes.bytes in
    let key = g.B.KeyBytes.key c.args.key.now in
    let pairs = pairs_at c.args.store.now c.args.root in
    let related : is_conflict bytes key pairs ≡ true = search rules in
    conflict_new bytes key pairs (map_held bytes g.row.P c.args.store.now c.requires.1) related

pub returns-in-Exact-clause-leaf : goal.returns-in-Exact-clause-leaf
returns-in-Exact-clause-leaf g c =
    let found = c.in-Some-search_for_insert_point_by.ensures in
    leaf_of_point g.K.AsBytes.bytes g.row.P found.applies c.in-Exact.is (c.in-Some.is ∙ ap Some (sym found.root))

pub returns-in_default-insert_kind-clause-new : goal.returns-in_default-insert_kind-clause-new
returns-in_default-insert_kind-clause-new g c =
    let found = c.in-Some-search_for_insert_point_by.ensures in
    point_new g.K.AsBytes.bytes g.row.P (c.in-Some.is ∙ ap Some (sym found.root)) found.applies c.in_default-insert_kind.not-Exact

pub returns-in_default-insert_kind-clause-position : goal.returns-in_default-insert_kind-clause-position
returns-in_default-insert_kind-clause-position g c =
    let found = c.in-Some-search_for_insert_point_by.ensures in
    let has = at_some c.in-Some.is c.requires.1 in
    let free = (found.accepted (pairs_at c.args.store.now c.args.root) has.layout has.by).0 refl in
    (c.in-Some.is ∙ ap Some (sym found.root), found.applies, c.in_default-insert_kind.not-Exact, free)
