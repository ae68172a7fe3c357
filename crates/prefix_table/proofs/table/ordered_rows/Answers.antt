use Rattle.std.proofs.Common.{List, length, subst}
use Rattle.prefix_table.specs.declared.rows.Row.{Row}
use Rattle.prefix_table.specs.Sorting.{IsFirstPair}
use Rattle.prefix_table.proofs.OrderLemmas.{first_is_repeat}
use Rattle.prefix_table.proofs.table.ordered_rows.Goals as goal

pub returns-in-Some-clause-fault : goal.returns-in-Some-clause-fault
returns-in-Some-clause-fault c =
    first_is_repeat c.args.networks.now c.in-Ok.rows.items c.in-Ok.ensures.same c.in-Ok.ensures.order (c.in-Some.first, c.in-Some.second)
    (subst (λ (rows : List Row). IsFirstPair rows (length rows) (c.in-Some.first, c.in-Some.second)) c.deref.ensures.value c.in-Some.ensures)
