use Rattle.std.proofs.Common.{sym, arith}
use Rattle.art_inner.proofs.RowTables.{shows_of, table_name, table_vacant}
use Rattle.art_inner.proofs.table.Table.name_at.Goals as goal

pub returns-then-place-self : goal.returns-then-place-self
returns-then-place-self g c =
    let s = shows_of c.self.inside c.args.self.now c.self.told c.self.told2 c.self.invariant c.self.view_is in
    sym (table_vacant c.self.inside c.args.self.now s c.args.place (omega (arith, c.if-place-self.true)))

pub returns : goal.returns
returns g c =
    let s = shows_of c.self.inside c.args.self.now c.self.told c.self.told2 c.self.invariant c.self.view_is in
    sym (table_name c.self.inside c.args.self.now s c.args.place (omega (arith, c.if-place-self.false)))
