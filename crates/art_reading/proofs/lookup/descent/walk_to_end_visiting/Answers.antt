use Rattle.std.proofs.Common.{◌+◌, arith, rules, sym}
use Rattle.art_model.proofs.places.EdgeDescents.{edge_inner_there, edge_shown, edge_some}
use Rattle.art_reading.specs.PathSteps.{path_after}
use Rattle.art_reading.proofs.Along.{IsAlong, start, ends, steps}
use Rattle.art_reading.proofs.Counters.{count_both}
use Rattle.art_reading.proofs.PartNodes.{some_there}
use Rattle.art_reading.proofs.lookup.descent.walk_to_end_visiting.Goals as goal

pub down-init : goal.down-init
down-init g c = record {
  along = λ layout full. rw c.new-steps.ensures (start c.args.end full);
  readings = record { number = 0; counted = omega arith; is_number = omega arith };
}

pub returns-in-Leaf-clause-leads : goal.returns-in-Leaf-clause-leads
returns-in-Leaf-clause-leads g c layout full =
    rw c.path.ensures (ends (path_after c.down.steps) c.args.end c.in-Leaf.ensures.name (c.down.invariant.along layout full))

pub inner_at-node-requires : goal.inner_at-node-requires
inner_at-node-requires g c =
    let (layout, full) = c.requires in
    let there = edge_inner_there (IsAlong c.args.end (path_after c.down.steps)) c.args.store.now layout
    (c.down.invariant.along layout full) c.in-Inner.ensures.proper c.in-Inner.ensures.name in
    (search rules, (search rules, some_there _ there))

pub child_at_end-byte-requires : goal.child_at_end-byte-requires
child_at_end-byte-requires g c =
    let (layout, full) = c.requires in
    let d = c.down.invariant.along layout full in (
      search rules,
      edge_some (IsAlong c.args.end (path_after c.down.steps)) c.args.store.now layout d
          (edge_shown (IsAlong c.args.end (path_after c.down.steps))
          c.args.store.now layout d c.in-Inner.ensures.proper c.in-Inner.ensures.name (sym c.inner_at-node.ensures.view)),
    )

pub down-smaller : goal.down-smaller
down-smaller g c =
    let (layout, full) = c.requires in
    let d = c.down.invariant.along layout full in
    (steps (path_after c.down.steps) c.args.end d (edge_shown (IsAlong c.args.end (path_after c.down.steps)) c.args.store.now layout d c.in-Inner.ensures.proper
    c.in-Inner.ensures.name (sym c.inner_at-node.ensures.view)) c.child_at_end-byte.result c.child_at_end-byte.ensures).1

pub down-preserved : goal.down-preserved
down-preserved g c = record {
  along = λ layout full.
      let d = c.down.invariant.along layout full in
      rw c.step_down.ensures (steps (path_after c.down.steps) c.args.end d
      (edge_shown (IsAlong c.args.end (path_after c.down.steps)) c.args.store.now layout d c.in-Inner.ensures.proper c.in-Inner.ensures.name
      (sym c.inner_at-node.ensures.view)) c.child_at_end-byte.result c.child_at_end-byte.ensures).0;
  readings =
      let (layout, full) = c.requires in
      let before = c.down.invariant.readings in
      let few = before.is_number in
      let d = c.down.invariant.along layout full in
      let less = (steps (path_after c.down.steps) c.args.end d
      (edge_shown (IsAlong c.args.end (path_after c.down.steps)) c.args.store.now layout d c.in-Inner.ensures.proper
      c.in-Inner.ensures.name (sym c.inner_at-node.ensures.view)) c.child_at_end-byte.result c.child_at_end-byte.ensures).1 in
      record { number = before.number + 1; counted = count_both _ _ _ before.counted c.count_one.ensures; is_number = omega arith };
}

pub returns-in-Leaf-clause-visits : goal.returns-in-Leaf-clause-visits
returns-in-Leaf-clause-visits g c =
    let readings = c.down.invariant.readings in
    let few = readings.is_number in
    record { number = readings.number; counted = readings.counted; is_number = omega arith }
