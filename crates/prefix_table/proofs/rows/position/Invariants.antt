use Rattle.std.proofs.Common.{ℕ, ◌<◌, ◌≤◌, length}
use Rattle.prefix_table.specs.Networks.{Precedes}
use Rattle.prefix_table.specs.Rows.{network_of, row_at}
use Rattle.prefix_table.proofs.rows.position.Given as goal

abbrev pub invariant-loop-at : goal.invariant-loop-at
invariant-loop-at l = record {
  bounded : l.at ≤ length l.rows;
  after : (k : ℕ) → l.at ≤ k → k < length l.rows → ¬ Precedes (network_of (row_at l.rows k)) l.network;
}

abbrev pub decreases-loop-at : goal.decreases-loop-at
decreases-loop-at l = l.at
