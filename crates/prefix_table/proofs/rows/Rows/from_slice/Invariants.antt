use Rattle.std.proofs.Common.{◌≡◌, take}
use Rattle.prefix_table.specs.Sorting.{in_order}
use Rattle.prefix_table.specs.Columns.{AreRows, rows_of}
use Rattle.prefix_table.proofs.rows.Rows.from_slice.Given as goal

abbrev pub invariant-loop-row : goal.invariant-loop-row
invariant-loop-row l = record {
  made : rows_of l.starts l.rests ≡ take l.row-index (in_order l.rows);
  are : AreRows l.starts l.rests;
}
