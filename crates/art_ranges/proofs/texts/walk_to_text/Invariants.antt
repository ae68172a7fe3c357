use Rattle.std.proofs.Common.{◌-◌, ◌≤◌, length}
use Rattle.art_model.specs.Pairs.{of_key}
use Rattle.art_model.specs.Roots.{ForTree}
use Rattle.art_ranges.specs.TextWays.{bytes_along}
use Rattle.art_ranges.proofs.TextReads.{CountsAbove}
use Rattle.art_ranges.proofs.TextWays.{IsNestedWay}
use Rattle.art_ranges.proofs.texts.walk_to_text.Given as goal

abbrev pub invariant-down : goal.invariant-down
invariant-down g l = record {
  within : l.depth ≤ length l.query;
  readings : CountsAbove (of_key g.K.AsBytes.bytes) g.row.P l.store l.fn.root (bytes_along l.kept l.at_least l.query) l.fn.visits l.name l.depth l.visits;
  way : ForTree (of_key g.K.AsBytes.bytes) g.row.P l.store l.fn.root
      (λ pairs layout. IsNestedWay (of_key g.K.AsBytes.bytes) g.row.P l.end l.query l.at_least l.kept layout l.name l.depth l.passed);
}

abbrev pub decreases-down : goal.decreases-down
decreases-down g l = length l.query - l.depth
