use Rattle.std.proofs.Common.{◌+◌, ◌<◌, sym, subst, arith}
use Rattle.std.proofs.lemmas.List.{length-take-le}
use Rattle.art_inner.specs.Inner.{IsRising}
use Rattle.art_inner.proofs.RowsLemmas.{count_below-bound}
use Rattle.art_inner.proofs.RowTables.{length_around, shows_of, table_length, table_inserted}
use Rattle.art_inner.proofs.TableLemmas.{IsRising-put_child}
use Rattle.art_inner.proofs.table.Table.insert.Goals as goal

pub whole_as_front-insert_into : goal.whole_as_front-insert_into
whole_as_front-insert_into g c =
    let s = shows_of c.self.inside c.args.self.now c.self.told c.self.told2 c.self.invariant c.self.view_is in
    let room : c.self.inside.len < g.row.N = omega (arith, table_length c.self.inside c.args.self.now s, c.requires.room) in
    (omega (arith, room), omega (arith, g.N.fits))

pub insert_into-requires : goal.insert_into-requires
insert_into-requires g c =
    let s = shows_of c.self.inside c.args.self.now c.self.told c.self.told2 c.self.invariant c.self.view_is in
    let room : c.self.inside.len < g.row.N = omega (arith, table_length c.self.inside c.args.self.now s, c.requires.room) in
    let fits = length-take-le (c.self.inside.len + 1) c.self.inside.bytes (omega (arith, room, s.bytes)) in
    omega (arith, fits, table_length c.self.inside c.args.self.now s, c.requires.place, count_below-bound c.args.self.now c.args.byte)

pub invariant_of-self : goal.invariant_of-self
invariant_of-self g c =
    let s = shows_of c.self.inside c.args.self.now c.self.told c.self.told2 c.self.invariant c.self.view_is in
    let room : c.self.inside.len < g.row.N = omega (arith, table_length c.self.inside c.args.self.now s, c.requires.room) in
    let made =
    (table_inserted c.self.inside c.args.self.now s c.args.at c.args.byte c.requires.place c.args.child c.insert_into.new.bytes
    c.insert_into.new.kinds c.insert_into.new.slots room
    c.requires.absent
    c.insert_into.ensures.bytes c.insert_into.ensures.kinds c.insert_into.ensures.slots) in (
      omega (arith, room),
      length_around c.self.inside.kinds c.insert_into.new.kinds g.row.N (c.self.inside.len + 1) (omega (arith, room)) s.kinds c.insert_into.auto.kinds,
      subst IsRising (sym made) (IsRising-put_child _ _ _ s.rising),
      s.small,
    )

pub returns : goal.returns
returns g c =
    let s = shows_of c.self.inside c.args.self.now c.self.told c.self.told2 c.self.invariant c.self.view_is in
    let room : c.self.inside.len < g.row.N = omega (arith, table_length c.self.inside c.args.self.now s, c.requires.room) in
    table_inserted c.self.inside c.args.self.now s c.args.at c.args.byte c.requires.place c.args.child c.insert_into.new.bytes
    c.insert_into.new.kinds c.insert_into.new.slots room
    c.requires.absent
    c.insert_into.ensures.bytes c.insert_into.ensures.kinds c.insert_into.ensures.slots
