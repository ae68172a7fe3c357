use Rattle.std.proofs.Common.{◌≡◌, ◌-◌, ◌≤◌, length}
use Rattle.art_model.specs.Prelude.{of_key, ForTree}
use Rattle.art_reading.specs.PathSteps.{path_after}
use Rattle.art_reading.specs.Readings.{CountsReadings}
use Rattle.art_reading.proofs.PrefixDescents.{IsReadBelow}
use Rattle.art_reading.proofs.lookup.descent.walk_below_visiting.Given as goal

abbrev pub invariant-down : goal.invariant-down
invariant-down g l = record {
  within : l.depth ≤ length (g.B.KeyBytes.key l.fn.prefix);
  same : g.B.KeyBytes.key l.prefix ≡ g.B.KeyBytes.key l.fn.prefix;
  readings : CountsReadings l.fn.visits l.visits (λ number. ForTree (of_key g.K.AsBytes.bytes) g.row.P l.store l.fn.root
      (λ pairs layout.
      IsReadBelow (of_key g.K.AsBytes.bytes) g.row.P l.store l.fn.root (g.B.KeyBytes.key l.fn.prefix) layout (path_after l.steps) l.name l.depth number));
}

abbrev pub decreases-down : goal.decreases-down
decreases-down g l = length (g.B.KeyBytes.key l.fn.prefix) - l.depth
