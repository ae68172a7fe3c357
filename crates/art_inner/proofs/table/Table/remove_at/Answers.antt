use Rattle.std.proofs.Common.{◌<◌, sym, subst, arith}
use Rattle.std.proofs.lemmas.List.{length-take-le}
use Rattle.art_inner.specs.Inner.{IsRising}
use Rattle.art_inner.proofs.ChildrenLaws.{IsRising-remove_child}
use Rattle.art_inner.proofs.RowTables.{length_around, shows_of, table_place, table_found, table_removed}
use Rattle.art_inner.proofs.table.Table.remove_at.Goals as goal

pub bounds-self-inside-at : goal.bounds-self-inside-at
bounds-self-inside-at g c =
    let s = shows_of c.self.inside c.args.self.now c.self.told c.self.told2 c.self.invariant c.self.view_is in
    omega (arith, s.fits, table_place c.self.inside c.args.self.now s c.args.at c.args.byte c.requires.place c.requires.there)

pub offset_bounds-self-inside-at : goal.offset_bounds-self-inside-at
offset_bounds-self-inside-at g c =
    let s = shows_of c.self.inside c.args.self.now c.self.told c.self.told2 c.self.invariant c.self.view_is in
    let within : c.args.at < g.row.N =
    omega (arith, s.fits, table_place c.self.inside c.args.self.now s c.args.at c.args.byte c.requires.place c.requires.there) in
    omega (arith, within, g.N.fits)

pub bounds-self-inside-at-2 : goal.bounds-self-inside-at-2
bounds-self-inside-at-2 g c =
    let s = shows_of c.self.inside c.args.self.now c.self.told c.self.told2 c.self.invariant c.self.view_is in
    omega (arith, s.fits, table_place c.self.inside c.args.self.now s c.args.at c.args.byte c.requires.place c.requires.there)

pub remove_from-requires : goal.remove_from-requires
remove_from-requires g c =
    let s = shows_of c.self.inside c.args.self.now c.self.told c.self.told2 c.self.invariant c.self.view_is in
    omega (
      arith,
      table_place c.self.inside c.args.self.now s c.args.at c.args.byte c.requires.place c.requires.there,
      length-take-le c.self.inside.len c.self.inside.bytes (omega (arith, s.fits, s.bytes)),
    )

pub invariant_of-self : goal.invariant_of-self
invariant_of-self g c =
    let s = shows_of c.self.inside c.args.self.now c.self.told c.self.told2 c.self.invariant c.self.view_is in
    let out = (table_removed c.self.inside c.args.self.now s c.args.at c.args.byte c.requires.place c.remove_from.new.part
    c.remove_from-2.new.part c.remove_from-3.new.part c.requires.there
    c.remove_from.auto.part c.remove_from.ensures c.remove_from-2.auto.part c.remove_from-2.ensures c.remove_from-3.auto.part c.remove_from-3.ensures) in (
      omega (arith, s.fits),
      length_around c.self.inside.kinds c.remove_from-2.new.part g.row.N c.self.inside.len s.fits s.kinds c.remove_from-2.auto.part,
      subst IsRising (sym out) (IsRising-remove_child _ _ s.rising),
      s.small,
    )

pub returns-clause-removed : goal.returns-clause-removed
returns-clause-removed g c =
    let s = shows_of c.self.inside c.args.self.now c.self.told c.self.told2 c.self.invariant c.self.view_is in
    table_found c.self.inside c.args.self.now s c.args.at c.args.byte c.requires.place c.requires.there

pub returns-clause-rest : goal.returns-clause-rest
returns-clause-rest g c =
    let s = shows_of c.self.inside c.args.self.now c.self.told c.self.told2 c.self.invariant c.self.view_is in
    table_removed c.self.inside c.args.self.now s c.args.at c.args.byte c.requires.place c.remove_from.new.part c.remove_from-2.new.part
    c.remove_from-3.new.part c.requires.there
    c.remove_from.auto.part c.remove_from.ensures c.remove_from-2.auto.part c.remove_from-2.ensures c.remove_from-3.auto.part c.remove_from-3.ensures
