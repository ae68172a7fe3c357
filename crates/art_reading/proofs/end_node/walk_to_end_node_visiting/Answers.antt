use Rattle.std.proofs.Common.{◌+◌, ◌∙◌, arith, refl, rules}
use Rattle.art_reading.specs.PathSteps.{path_after}
use Rattle.art_reading.proofs.EndNodes.{inside, start}
use Rattle.art_reading.proofs.Counters.{count_both}
use Rattle.art_reading.proofs.Levels.{guide_most, root_levels}
use Rattle.art_reading.proofs.Parents.{step_proper}
use Rattle.art_reading.proofs.end_node.walk_to_end_node_visiting.Goals as goal

pub down-init : goal.down-init
down-init g c = record {
  same = refl;
  guide = λ pairs layout by. tt;
  readings = record {
    number = 0;
    counted = omega arith;
    is_number = record {
      reached =
          λ pairs layout by. rw c.new-steps.ensures
          (record { at = start by (g.B.KeyBytes.key c.args.key.now); at_least = omega arith; if_whole = λ whole. omega arith });
      few = omega arith;
    };
  };
}

pub returns-in-End-clause-end : goal.returns-in-End-clause-end
returns-in-End-clause-end g c pairs layout by =
    let at = (c.down.invariant.readings.is_number.reached pairs layout by).at in
    rw c.path.ensures (rw c.in-End.is at ((rw c.down.invariant.same at c.next_step.ensures.step) (path_after c.down.steps) pairs layout by at)).0

pub returns-in-End-clause-visits : goal.returns-in-End-clause-visits
returns-in-End-clause-visits g c =
    let before = c.down.invariant.readings in
    let step = c.next_step.ensures.visits in
    let few = before.is_number.few in
    let cost = rw c.in-End.is at step.is_number.at_most in
    let own = step.is_number.at_least in
    record {
      number = before.number + step.number;
      counted = count_both _ _ _ before.counted step.counted;
      is_number = λ pairs layout by.
          let reached = before.is_number.reached pairs layout by in
          let last = (rw c.in-End.is at ((rw c.down.invariant.same at c.next_step.ensures.step) (path_after c.down.steps) pairs layout by reached.at)).1 in
          let seen = reached.at_least in
          let most = guide_most c.args.store.now c.args.root c.next_step.new.guide in
          let all = root_levels by in
          record {
            at_least = omega arith;
            at_most = omega arith;
            if_whole = λ whole. let same = reached.if_whole whole in let one = step.is_number.if_whole pairs layout by whole in omega arith;
          };
    }

pub down-smaller : goal.down-smaller
down-smaller g c =
    let (pairs, layout, by) = c.requires in
    let (deeper, at, left) =
    rw c.in-Down.is at ((rw c.down.invariant.same at c.next_step.ensures.step)
    (path_after c.down.steps) pairs layout by (c.down.invariant.readings.is_number.reached pairs layout by).at) in
    let short = inside by at in
    omega arith

pub down-preserved : goal.down-preserved
down-preserved g c =
    let before = c.down.invariant.readings in
    let step = c.next_step.ensures.visits in
    let few = before.is_number.few in
    let cost = rw c.in-Down.is at step.is_number.at_most in
    let own = step.is_number.at_least in
    record {
      same = c.next_step.ensures.same ∙ c.down.invariant.same;
      guide = rw c.down.invariant.same at c.next_step.ensures.guide;
      readings = record {
        number = before.number + step.number;
        counted = count_both _ _ _ before.counted step.counted;
        is_number = record {
          reached = λ pairs layout by.
              let reached = before.is_number.reached pairs layout by in
              let told = rw c.down.invariant.same at c.next_step.ensures.step in
              let (deeper, at, left) = rw c.in-Down.is at (told (path_after c.down.steps) pairs layout by reached.at) in
              let seen = reached.at_least in
              rw c.step_down.ensures (record {
                at = at;
                at_least = omega arith;
                if_whole = λ whole. let same = reached.if_whole whole in let one = step.is_number.if_whole pairs layout by whole in omega arith;
              });
          few = omega arith;
        };
      };
    }

pub next_step-requires : goal.next_step-requires
next_step-requires g c = (
  search rules,
  (
    c.requires,
    (
      (path_after c.down.steps, λ pairs layout by. rw c.down.invariant.same ((c.down.invariant.readings.is_number.reached pairs layout by).at)),
      rw c.down.invariant.same c.down.invariant.guide,
    ),
  ),
)

pub step_down-requires : goal.step_down-requires
step_down-requires g c =
    let (pairs, layout, by) = c.requires in
    let path = path_after c.down.steps in
    let step = (rw c.down.invariant.same at c.next_step.ensures.step) path pairs layout by (c.down.invariant.readings.is_number.reached pairs layout by).at in
    step_proper c.args.store.now path c.in-Down.inner c.in-Down.byte by (rw c.in-Down.is at step).1
