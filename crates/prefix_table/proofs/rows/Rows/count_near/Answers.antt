use Rattle.std.proofs.Common.{subst}
use Rattle.prefix_table.specs.Rows.{IsRowCount}
use Rattle.prefix_table.proofs.RowLemmas.{count_of_rows, rows_rise}
use Rattle.prefix_table.proofs.rows.Rows.count_near.Goals as goal

pub count_near-requires-clause-order : goal.count_near-requires-clause-order
count_near-requires-clause-order c = rows_rise c.self.inside.starts c.self.inside.rests c.self.invariant

pub returns-clause-count : goal.returns-clause-count
returns-clause-count c =
    subst (λ rows. IsRowCount rows c.args.address c.count_near.result.count) c.self.view_is
    (count_of_rows c.self.inside.starts c.self.inside.rests c.self.invariant c.args.address c.count_near.result.count
    c.count_near.ensures.count)
