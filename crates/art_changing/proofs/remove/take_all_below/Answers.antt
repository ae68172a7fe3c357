use Rattle.std.proofs.Common.{ap, sym, ◌∙◌, subst, length}
use Rattle.art_model.specs.Prelude.{of_key, below, not_below}
use Rattle.art_changing.specs.MapPairs.{HoldsPairs}
use Rattle.art_changing.proofs.PartsOut.{none_begins, none_held, others_hold, removed_few, removed_is}
use Rattle.art_changing.proofs.MapPuts.{at_some}
use Rattle.art_changing.proofs.remove.take_all_below.Goals as goal

pub returns-in_default : goal.returns-in_default
returns-in_default g c =
    let B = of_key g.K.AsBytes.bytes in
    let none = none_held B g.row.P c.in_default.is c.requires in (
      subst (HoldsPairs B g.row.P c.args.store.now c.args.root.now c.args.len.now)
          (none ∙ ap (not_below B (g.B.KeyBytes.key c.args.prefix)) (sym none)) c.requires,
      ap (λ xs. length (below B (g.B.KeyBytes.key c.args.prefix) xs)) (sym none),
    )

pub returns-in_default-search_for_prefix_delete_point : goal.returns-in_default-search_for_prefix_delete_point
returns-in_default-search_for_prefix_delete_point g c =
    let B = of_key g.K.AsBytes.bytes in
    let has = at_some c.in-Some.is c.requires in
    let (left, count) =
    none_begins B g.row.P has (g.B.KeyBytes.key c.args.prefix) (c.in_default-search_for_prefix_delete_point.ensures.point _ has.layout has.by) in
    (subst (HoldsPairs B g.row.P c.args.store.now c.args.root.now c.args.len.now) (sym left) c.requires, count)

pub overflow_sub-len : goal.overflow_sub-len
overflow_sub-len g c =
    let has = at_some c.in-Some.is c.requires in
    removed_few (of_key g.K.AsBytes.bytes) g.row.P has (g.B.KeyBytes.key c.args.prefix)
    (c.in-Some-search_for_prefix_delete_point.ensures.point _ has.layout has.by) (c.apply-done.ensures.removed _ has.layout has.by)

pub returns : goal.returns
returns g c =
    let B = of_key g.K.AsBytes.bytes in
    let has = at_some c.in-Some.is c.requires in
    let at = c.in-Some-search_for_prefix_delete_point.ensures.point _ has.layout has.by in (
      others_hold B g.row.P has (g.B.KeyBytes.key c.args.prefix) at (c.apply-done.ensures.removed _ has.layout has.by)
          (c.apply-done.ensures.canonical _ has.layout has.by) (c.apply-done.ensures.kept _ has.layout has.by),
      removed_is B g.row.P has (g.B.KeyBytes.key c.args.prefix) at (c.apply-done.ensures.removed _ has.layout has.by),
    )
