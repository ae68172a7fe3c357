use Rattle.std.proofs.Common.{rules, sym, ◌∙◌, subst, arith, ap, Some}
use Rattle.std.proofs.lemmas.Bool.{false≢true}
use Rattle.art_model.specs.Pairs.{of_key}
use Rattle.art_writing.specs.Points.{IsPointFor}
use Rattle.art_writing.proofs.RelatedPairs.{not_alone}
use Rattle.art_changing.specs.MapPairs.{pairs_at}
use Rattle.art_changing.proofs.Enough.{enough}
use Rattle.art_changing.proofs.MapPuts.{at_some, left_holds, over_counted, stays}
use Rattle.art_changing.proofs.insert.put_over.Goals as goal

pub overflow_sub-len : goal.overflow_sub-len
overflow_sub-len g c =
    let has = at_some (c.in-Some.is ∙ ap Some (sym c.search_for_prefix_insert_point-point.ensures.root)) c.requires in
    let counts =
    over_counted g.K.AsBytes.bytes g.row.P (c.args.key, c.args.value)
    has c.in-Ok-apply.done c.in-Ok-apply.ensures.applied.replaced c.in-Ok-apply.ensures.applied.removed in
    omega (arith, counts.fits)

pub one_more-requires : goal.one_more-requires
one_more-requires g c =
    let has = at_some (c.in-Some.is ∙ ap Some (sym c.search_for_prefix_insert_point-point.ensures.root)) c.requires in
    let counts =
    over_counted g.K.AsBytes.bytes g.row.P (c.args.key, c.args.value)
    has c.in-Ok-apply.done c.in-Ok-apply.ensures.applied.replaced c.in-Ok-apply.ensures.applied.removed in
    let most = enough (c.in-Ok-apply.ensures.applied.canonical _ has.layout has.by).1 in
    (search rules, omega (arith, counts.fits, counts.counted))

pub returns-in-Ok-apply : goal.returns-in-Ok-apply
returns-in-Ok-apply g c =
    let has = at_some (c.in-Some.is ∙ ap Some (sym c.search_for_prefix_insert_point-point.ensures.root)) c.requires in
    let counts =
    over_counted g.K.AsBytes.bytes g.row.P (c.args.key, c.args.value)
    has c.in-Ok-apply.done c.in-Ok-apply.ensures.applied.replaced c.in-Ok-apply.ensures.applied.removed in (
      left_holds (of_key g.K.AsBytes.bytes) g.row.P has (c.in-Ok-apply.ensures.applied.canonical _ has.layout has.by) (c.in-Ok-apply.ensures.applied.kept _ has.layout has.by)
          (omega (arith, counts.counted, c.one_more.ensures)),
      c.count_gone-gone.ensures ∙ counts.gone_is,
    )

pub returns-in-Err-apply : goal.returns-in-Err-apply
returns-in-Err-apply g c =
    let bytes = of_key g.K.AsBytes.bytes in
    let pairs = pairs_at c.args.store.now c.args.root.now in
    let point = c.search_for_prefix_insert_point-point.result in
    let has = at_some c.in-Some.is c.requires in
    let at = subst (λ key. IsPointFor bytes g.row.P key pairs has.layout point) c.as_bytes.ensures
    (c.search_for_prefix_insert_point-point.ensures.point pairs has.layout has.by) in (
      stays bytes g.row.P c.args.store.now c.apply.new.store c.in-Err-apply.ensures.memory.leaves c.in-Err-apply.ensures.memory.inners c.requires,
      c.in-Err-apply.ensures.memory.handed_back.0,
      c.in-Err-apply.ensures.memory.handed_back.1,
      not_alone bytes g.row.P has.by (g.K.AsBytes.bytes c.args.key) (c.args.key, c.args.value) point at
          (λ covered. absurd (false≢true (c.in-Err-apply.ensures.memory.succeeds covered))),
    )
