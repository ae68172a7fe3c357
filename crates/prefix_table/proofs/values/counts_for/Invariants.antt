use Rattle.std.proofs.Common.{take}
use Rattle.std.specs.List.{AllZip}
use Rattle.prefix_table.specs.Rows.{IsCountFor}
use Rattle.prefix_table.proofs.values.counts_for.Given as goal

abbrev pub invariant-loop-index : goal.invariant-loop-index
invariant-loop-index l = AllZip (IsCountFor l.rows) (take l.index l.addresses) l.counts.items
