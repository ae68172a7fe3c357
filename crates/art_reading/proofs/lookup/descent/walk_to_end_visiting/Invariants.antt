use Rattle.std.proofs.Common.{◌+◌, ◌≤◌}
use Rattle.std.specs.FinMap as map
use Rattle.art_model.specs.Prelude.{OpaqueNodePtr, Tree, node_at, height, IsFullTree}
use Rattle.art_model.proofs.places.EdgeDescents.{IsAtEdge}
use Rattle.art_reading.specs.Readings.{CountsReadings, levels}
use Rattle.art_reading.specs.PathSteps.{path_after}
use Rattle.art_reading.proofs.Along.{IsAlong}
use Rattle.art_reading.proofs.lookup.descent.walk_to_end_visiting.Given as goal

abbrev pub invariant-down : goal.invariant-down
invariant-down g l = record {
  along : (layout : Tree OpaqueNodePtr (g.row.K.Denot × g.row.V.Denot)) → IsFullTree l.store l.fn.root layout →
      IsAtEdge (IsAlong l.end (path_after l.steps)) l.store layout l.name;
  readings : CountsReadings l.fn.visits l.visits (λ number. number + levels l.store l.name ≤ levels l.store l.fn.root);
}

abbrev pub decreases-down : goal.decreases-down
decreases-down g l = height (node_at l.store) (map.len l.store.inners) l.name
