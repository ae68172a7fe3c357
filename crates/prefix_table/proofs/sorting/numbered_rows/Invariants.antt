use Rattle.std.proofs.Common.{◌≡◌, take}
use Rattle.prefix_table.specs.Sorting.{numbered}
use Rattle.prefix_table.proofs.sorting.numbered_rows.Given as goal

abbrev pub invariant-loop-place : goal.invariant-loop-place
invariant-loop-place l = l.rows.items ≡ take l.place (numbered 0 l.networks)
