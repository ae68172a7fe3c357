use Rattle.std.proofs.Common.{◌≡◌, rules, refl, sym, ◌∙◌, arith, None}
use Rattle.art_model.specs.Prelude.{of_key}
use Rattle.art_changing.proofs.Enough.{enough}
use Rattle.art_changing.proofs.Items.{no_pairs}
use Rattle.art_changing.proofs.MapPuts.{at_some, left_holds, pair_more, planted, same_many}
use Rattle.art_map.proofs.map.both.put_reserved.Goals as goal

pub returns-in_default : goal.returns-in_default
returns-in_default g c =
    let bytes = g.K.AsBytes.bytes in
    let bare : c.args.root.now ≡ None = (rw c.in_default.is at c.requires.reserved).0 in
    rw (no_pairs (of_key bytes) g.row.P c.args.store.now bare c.requires.holds, c.to_opaque.ensures) (
      planted bytes g.row.P (rw bare at c.requires.holds) (rw c.unwrap-leaf.ensures at c.plant.ensures.planted),
      refl,
      refl,
    )

pub one_more-requires : goal.one_more-requires
one_more-requires g c =
    let (root_is, point_in, covered, free) = rw c.in-Some.is at c.requires.reserved in
    let has = at_some root_is c.requires.holds in
    let more =
    pair_more g.K.AsBytes.bytes g.row.P (c.args.key, c.args.value) has
    (rw c.unwrap-done.ensures at c.apply.ensures.applied).replaced c.in_default-existing_leaf.is in
    let counted = more.1 in
    let most = enough ((rw c.unwrap-done.ensures at c.apply.ensures.applied).canonical _ has.layout has.by).1 in
    (search rules, omega arith)

pub returns-in_default-existing_leaf : goal.returns-in_default-existing_leaf
returns-in_default-existing_leaf g c =
    let (root_is, point_in, covered, free) = rw c.in-Some.is at c.requires.reserved in
    let has = at_some root_is c.requires.holds in
    let more = pair_more g.K.AsBytes.bytes g.row.P (c.args.key, c.args.value) has
    (rw c.unwrap-done.ensures at c.apply.ensures.applied).replaced c.in_default-existing_leaf.is in (
      left_holds (of_key g.K.AsBytes.bytes) g.row.P has ((rw c.unwrap-done.ensures at c.apply.ensures.applied).canonical _ has.layout has.by)
          ((rw c.unwrap-done.ensures at c.apply.ensures.applied).kept _ has.layout has.by) (c.one_more.ensures ∙ sym more.1),
      sym more.0,
      free,
    )

pub returns : goal.returns
returns g c =
    let (root_is, point_in, covered, free) = rw c.in-Some.is at c.requires.reserved in
    let has = at_some root_is c.requires.holds in
    let many =
    same_many g.K.AsBytes.bytes g.row.P (c.args.key, c.args.value) has
    (rw c.unwrap-done.ensures at c.apply.ensures.applied).replaced c.in-Some-existing_leaf.is in
    rw c.in-Some-existing_leaf.is (
      left_holds (of_key g.K.AsBytes.bytes) g.row.P has ((rw c.unwrap-done.ensures at c.apply.ensures.applied).canonical _ has.layout has.by)
          ((rw c.unwrap-done.ensures at c.apply.ensures.applied).kept _ has.layout has.by) (sym many.1),
      sym many.0,
      free,
    )
