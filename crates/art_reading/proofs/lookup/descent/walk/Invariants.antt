use Rattle.std.proofs.Common.{◌+◌, ◌-◌, ◌≤◌, length}
use Rattle.art_model.specs.Prelude.{of_key, ForTree}
use Rattle.art_reading.specs.PathSteps.{path_after}
use Rattle.art_reading.proofs.LookupWays.{IsOnWay}
use Rattle.art_reading.proofs.lookup.descent.walk.Given as goal

abbrev pub invariant-down : goal.invariant-down
invariant-down g l = record {
  short : l.depth ≤ length l.front;
  few : l.visits ≤ l.fn.visits + l.depth;
  on_way : ForTree (of_key g.K.AsBytes.bytes) g.row.P l.store l.fn.root
      (λ pairs layout. IsOnWay (of_key g.K.AsBytes.bytes) g.row.P l.fn.start (g.Q.KeyBytes.key l.fn.query) layout
      (path_after l.steps) l.name l.depth l.behavior l.fn.visits l.visits);
}

abbrev pub decreases-down : goal.decreases-down
decreases-down g l = length l.front - l.depth
