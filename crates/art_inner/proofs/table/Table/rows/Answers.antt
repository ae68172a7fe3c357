use Rattle.std.proofs.Common.{sym, arith, ◌∙◌}
use Rattle.art_inner.proofs.RowsLemmas.{rows-take}
use Rattle.art_inner.proofs.RowTables.{shows_of, table_length}
use Rattle.art_inner.proofs.table.Table.rows.Goals as goal

pub returns-clause-value : goal.returns-clause-value
returns-clause-value g c = sym (rows-take c.self.inside.len c.self.inside.bytes c.self.inside.kinds c.self.inside.slots) ∙ c.self.view_is

pub returns-clause-bound : goal.returns-clause-bound
returns-clause-bound g c =
    let s = shows_of c.self.inside c.args.self.now c.self.told c.self.told2 c.self.invariant c.self.view_is in
    omega (arith, s.fits, table_length c.self.inside c.args.self.now s)
