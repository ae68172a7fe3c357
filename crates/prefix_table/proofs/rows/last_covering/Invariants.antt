use Rattle.std.proofs.Common.{◌≡◌, ℕ, ◌+◌, ◌-◌, ◌<◌, ◌≤◌, true, false, count_by, take}
use Rattle.prefix_table.specs.Networks.{covers_at}
use Rattle.prefix_table.specs.Columns.{network_at, rows_of}
use Rattle.prefix_table.specs.Rows.{network_of}
use Rattle.prefix_table.specs.Starts.{start_at}
use Rattle.prefix_table.proofs.rows.last_covering.Given as goal

abbrev pub invariant-loop-found : goal.invariant-loop-found
invariant-loop-found l = record {
  bounded : l.found ≤ l.upto;
  none_after : (k : ℕ) → l.found ≤ k → k < l.upto → covers_at (network_at l.starts l.rests k) l.address ≡ false;
  own : 0 < l.found → covers_at (network_at l.starts l.rests (l.found - 1)) (start_at l.starts (l.upto - 1)) ≡ true;
  few : l.looked
      + count_by (λ row. covers_at (network_of row) (start_at l.starts (l.upto - 1))) (take l.found (rows_of l.starts l.rests))
      ≤ count_by (λ row. covers_at (network_of row) (start_at l.starts (l.upto - 1))) (take l.upto (rows_of l.starts l.rests));
}

abbrev pub decreases-loop-found : goal.decreases-loop-found
decreases-loop-found l = l.found
