use Rattle.std.proofs.Common.{◌≡◌, Some, ap, rules, sym, ◌∙◌}
use Rattle.art_building.proofs.Built.{begun_held, edge_at, fits, more_held, reason_after, still_held}
use Rattle.art_building.specs.Built.{edge_in}
use Rattle.art_building.proofs.byte_map.append_in.Goals as goal

pub returns-in-Ok : goal.returns-in-Ok
returns-in-Ok g c =
    begun_held g.K.AsBytes.bytes g.row.P (ap edge_in c.in_default.is) c.requires c.in-Ok.ensures.root c.in-Ok.ensures.planted c.in-Ok.ensures.begun

pub one_more-requires : goal.one_more-requires
one_more-requires g c =
    let is : edge_in c.args.edge.now ≡ Some c.deref_mut.result.now = ap edge_in c.in-Some.is ∙ ap Some (sym c.deref_mut.ensures.value) in
    let e = edge_at is c.requires in
    (search rules, fits c.append.new.edge (c.args.key, c.args.value) is c.requires (c.in-Ok-append.ensures.appended _ e) (λ right. c.in-Ok-append.ensures.kept _ right))

pub returns-in-Ok-append : goal.returns-in-Ok-append
returns-in-Ok-append g c =
    let is : edge_in c.args.edge.now ≡ Some c.deref_mut.result.now = ap edge_in c.in-Some.is ∙ ap Some (sym c.deref_mut.ensures.value) in
    let e = edge_at is c.requires in
    more_held c.append.new.edge (c.args.key, c.args.value) is c.requires (c.in-Ok-append.ensures.appended _ e) (λ right. c.in-Ok-append.ensures.kept _ right) c.one_more.ensures

pub returns-in-Err-append : goal.returns-in-Err-append
returns-in-Err-append g c =
    let is : edge_in c.args.edge.now ≡ Some c.deref_mut.result.now = ap edge_in c.in-Some.is ∙ ap Some (sym c.deref_mut.ensures.value) in
    let e = edge_at is c.requires in
    let told = c.in-Err-append.ensures in (
      still_held is c.requires told.leaves told.inners told.root told.steps told.leaf,
      (told.handed_back.0, told.handed_back.1, reason_after g.K.AsBytes.bytes c.deref_mut.result.now c.args.key c.in-Err-append.error.reason e (told.reason _ e)),
    )
