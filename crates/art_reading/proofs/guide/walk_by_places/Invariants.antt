use Rattle.std.proofs.Common.{◌≡◌, ◌+◌, ◌-◌, ◌≤◌, length}
use Rattle.art_model.specs.Prelude.{of_key, ForTree}
use Rattle.art_reading.specs.Readings.{levels}
use Rattle.art_reading.proofs.Guides.{IsByPlaces}
use Rattle.art_reading.proofs.guide.walk_by_places.Given as goal

abbrev pub invariant-down : goal.invariant-down
invariant-down g l = record {
  few : l.visits + levels l.store l.name ≤ l.fn.visits + levels l.store l.fn.root;
  within : l.depth ≤ length (g.B.KeyBytes.key l.fn.key_bytes);
  same : g.B.KeyBytes.key l.key_bytes ≡ g.B.KeyBytes.key l.fn.key_bytes;
  way : ForTree (of_key g.K.AsBytes.bytes) g.row.P l.store l.fn.root
      (λ pairs layout. IsByPlaces (of_key g.K.AsBytes.bytes) g.row.P (g.B.KeyBytes.key l.fn.key_bytes) layout l.name l.depth);
}

abbrev pub decreases-down : goal.decreases-down
decreases-down g l = length (g.B.KeyBytes.key l.fn.key_bytes) - l.depth
