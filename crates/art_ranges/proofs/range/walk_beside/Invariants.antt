use Rattle.std.proofs.Common.{◌≡◌, ◌-◌, ◌≤◌, length}
use Rattle.art_model.specs.Prelude.{of_key, ForTree}
use Rattle.art_reading.specs.Guides.{MayGuide}
use Rattle.art_reading.specs.Readings.{CountsReadings}
use Rattle.art_ranges.proofs.NeighbourDescents.{IsReadOnKey}
use Rattle.art_ranges.proofs.range.walk_beside.Given as goal

abbrev pub invariant-down : goal.invariant-down
invariant-down g l = record {
  within : l.depth ≤ length (g.B.KeyBytes.key l.fn.bytes);
  same : g.B.KeyBytes.key l.bytes ≡ g.B.KeyBytes.key l.fn.bytes;
  readings : CountsReadings l.fn.visits l.visits (λ number. ForTree (of_key g.K.AsBytes.bytes) g.row.P l.store l.fn.root
      (λ pairs layout. IsReadOnKey (of_key g.K.AsBytes.bytes) g.row.P l.store l.fn.root (g.B.KeyBytes.key l.fn.bytes) layout l.name l.depth l.guide number));
  guide : ForTree (of_key g.K.AsBytes.bytes) g.row.P l.store l.fn.root
      (λ pairs layout. MayGuide (of_key g.K.AsBytes.bytes) (g.B.KeyBytes.key l.fn.bytes) layout l.guide);
}

abbrev pub decreases-down : goal.decreases-down
decreases-down g l = length (g.B.KeyBytes.key l.fn.bytes) - l.depth
