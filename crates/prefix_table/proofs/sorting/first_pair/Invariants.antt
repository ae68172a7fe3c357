use Rattle.std.proofs.Common.{◌+◌}
use Rattle.prefix_table.specs.Sorting.{IsFirstPairOf}
use Rattle.prefix_table.proofs.sorting.first_pair.Given as goal

abbrev pub invariant-loop-at : goal.invariant-loop-at
invariant-loop-at l = IsFirstPairOf l.rows (l.at + 1) l.found
