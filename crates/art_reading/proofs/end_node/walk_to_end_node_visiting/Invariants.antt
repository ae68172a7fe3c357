use Rattle.std.proofs.Common.{◌≡◌, ◌-◌, length}
use Rattle.art_model.specs.Prelude.{of_key, ForTree}
use Rattle.art_reading.specs.Guides.{MayGuide}
use Rattle.art_reading.specs.PathSteps.{path_after}
use Rattle.art_reading.specs.Readings.{CountsReadings}
use Rattle.art_reading.proofs.Levels.{IsUnderWay}
use Rattle.art_reading.proofs.end_node.walk_to_end_node_visiting.Given as goal

abbrev pub invariant-down : goal.invariant-down
invariant-down g l = record {
  same : g.B.KeyBytes.key l.key ≡ g.B.KeyBytes.key l.fn.key;
  guide : ForTree (of_key g.K.AsBytes.bytes) g.row.P l.store l.fn.root
      (λ pairs layout. MayGuide (of_key g.K.AsBytes.bytes) (g.B.KeyBytes.key l.fn.key) layout l.guide);
  readings : CountsReadings l.fn.visits l.visits
      (λ number. IsUnderWay (of_key g.K.AsBytes.bytes) g.row.P l.store l.fn.root (g.B.KeyBytes.key l.fn.key) (path_after l.steps)
      l.name l.depth l.guide number);
}

abbrev pub decreases-down : goal.decreases-down
decreases-down g l = length (g.B.KeyBytes.key l.fn.key) - l.depth
