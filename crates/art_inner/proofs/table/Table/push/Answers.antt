use Rattle.std.proofs.Common.{◌<◌, sym, subst, arith, ◌∙◌}
use Rattle.std.proofs.lemmas.List.{length-set}
use Rattle.art_inner.specs.Inner.{IsRising}
use Rattle.art_inner.proofs.RowTables.{shows_of, table_length, table_pushed, rising_behind}
use Rattle.art_inner.proofs.table.Table.push.Goals as goal

pub bounds-self-inside-last : goal.bounds-self-inside-last
bounds-self-inside-last g c =
    let s = shows_of c.self.inside c.args.self.now c.self.told c.self.told2 c.self.invariant c.self.view_is in
    omega (arith, table_length c.self.inside c.args.self.now s, c.requires.room)

pub bounds-self-inside-last-2 : goal.bounds-self-inside-last-2
bounds-self-inside-last-2 g c =
    let s = shows_of c.self.inside c.args.self.now c.self.told c.self.told2 c.self.invariant c.self.view_is in
    omega (arith, table_length c.self.inside c.args.self.now s, c.requires.room)

pub bounds-self-inside-last-3 : goal.bounds-self-inside-last-3
bounds-self-inside-last-3 g c =
    let s = shows_of c.self.inside c.args.self.now c.self.told c.self.told2 c.self.invariant c.self.view_is in
    omega (arith, table_length c.self.inside c.args.self.now s, c.requires.room)

pub invariant_of-self : goal.invariant_of-self
invariant_of-self g c =
    let s = shows_of c.self.inside c.args.self.now c.self.told c.self.told2 c.self.invariant c.self.view_is in
    let room : c.self.inside.len < g.row.N = omega (arith, table_length c.self.inside c.args.self.now s, c.requires.room) in (
      omega (arith, room),
      length-set c.self.inside.kinds c.self.inside.len c.args.child.kind
          ∙ s.kinds,
      subst IsRising (sym (table_pushed c.self.inside c.args.self.now s c.args.byte c.args.child room)) (rising_behind _ _ _ s.rising c.requires.rising),
      s.small,
    )

pub returns : goal.returns
returns g c =
    let s = shows_of c.self.inside c.args.self.now c.self.told c.self.told2 c.self.invariant c.self.view_is in
    table_pushed c.self.inside c.args.self.now s c.args.byte c.args.child (omega (arith, table_length c.self.inside c.args.self.now s, c.requires.room))

pub overflow_add-self : goal.overflow_add-self
overflow_add-self g c =
    let s = shows_of c.self.inside c.args.self.now c.self.told c.self.told2 c.self.invariant c.self.view_is in
    omega (arith, s.small, table_length c.self.inside c.args.self.now s, c.requires.room)
