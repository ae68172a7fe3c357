use Rattle.std.proofs.Common.{◌<◌, is_some, sym, ap, subst, arith, ◌∙◌}
use Rattle.std.proofs.lemmas.List.{length-set}
use Rattle.art_inner.specs.Inner.{IsRising, child_at, count_below}
use Rattle.art_inner.proofs.RowTables.{shows_of, table_place, table_set}
use Rattle.art_inner.proofs.TableLemmas.{IsRising-put_child}
use Rattle.art_inner.proofs.table.TableChildTable.write.Goals as goal

pub bounds-self-inside-at : goal.bounds-self-inside-at
bounds-self-inside-at g c =
    let s = shows_of c.self.inside c.args.self.now c.self.told c.self.told2 c.self.invariant c.self.view_is in
    let place = c.in-Ok.ensures.place ∙ ap (λ cs. count_below cs c.args.byte) c.rows.ensures.value in
    let there = ap (λ cs. is_some (child_at cs c.args.byte)) (sym c.rows.ensures.value) ∙ c.in-Ok.ensures.found in
    omega (arith, s.fits, table_place c.self.inside c.args.self.now s c.in-Ok.at c.args.byte place there)

pub offset_bounds-self-inside-at : goal.offset_bounds-self-inside-at
offset_bounds-self-inside-at g c =
    let s = shows_of c.self.inside c.args.self.now c.self.told c.self.told2 c.self.invariant c.self.view_is in
    let place = c.in-Ok.ensures.place ∙ ap (λ cs. count_below cs c.args.byte) c.rows.ensures.value in
    let there = ap (λ cs. is_some (child_at cs c.args.byte)) (sym c.rows.ensures.value) ∙ c.in-Ok.ensures.found in
    let within : c.in-Ok.at < g.row.N = omega (arith, s.fits, table_place c.self.inside c.args.self.now s c.in-Ok.at c.args.byte place there) in
    omega (arith, within, g.N.fits)

pub bounds-self-inside-at-in-Ok : goal.bounds-self-inside-at-in-Ok
bounds-self-inside-at-in-Ok g c =
    let s = shows_of c.self.inside c.args.self.now c.self.told c.self.told2 c.self.invariant c.self.view_is in
    let place = c.in-Ok.ensures.place ∙ ap (λ cs. count_below cs c.args.byte) c.rows.ensures.value in
    let there = ap (λ cs. is_some (child_at cs c.args.byte)) (sym c.rows.ensures.value) ∙ c.in-Ok.ensures.found in
    omega (arith, s.fits, table_place c.self.inside c.args.self.now s c.in-Ok.at c.args.byte place there)

pub invariant_of-self : goal.invariant_of-self
invariant_of-self g c =
    let s = shows_of c.self.inside c.args.self.now c.self.told c.self.told2 c.self.invariant c.self.view_is in
    let place = c.in-Ok.ensures.place ∙ ap (λ cs. count_below cs c.args.byte) c.rows.ensures.value in
    let there = ap (λ cs. is_some (child_at cs c.args.byte)) (sym c.rows.ensures.value) ∙ c.in-Ok.ensures.found in (
      s.fits,
      length-set c.self.inside.kinds c.in-Ok.at c.args.child.kind
          ∙ s.kinds,
      subst IsRising (sym (table_set c.self.inside c.args.self.now s c.in-Ok.at c.args.byte place c.args.child there)) (IsRising-put_child _ _ _ s.rising),
      s.small,
    )

pub returns-in-Ok : goal.returns-in-Ok
returns-in-Ok g c =
    let s = shows_of c.self.inside c.args.self.now c.self.told c.self.told2 c.self.invariant c.self.view_is in
    let place = c.in-Ok.ensures.place ∙ ap (λ cs. count_below cs c.args.byte) c.rows.ensures.value in
    let there = ap (λ cs. is_some (child_at cs c.args.byte)) (sym c.rows.ensures.value) ∙ c.in-Ok.ensures.found in
    table_set c.self.inside c.args.self.now s c.in-Ok.at c.args.byte place c.args.child there
