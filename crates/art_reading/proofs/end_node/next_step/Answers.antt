use Rattle.std.proofs.Common.{arith, refl, rules, sym}
use Rattle.art_reading.proofs.EndNodes.{at_named, leaf_there, leaf_step, step_named}
use Rattle.art_reading.proofs.end_node.next_step.Goals as goal

pub leaf_at-leaf-requires : goal.leaf_at-leaf-requires
leaf_at-leaf-requires g c =
    let (pairs, layout, by) = c.requires.root in
    (search rules, leaf_there by (c.requires.at.1 pairs layout by) c.in-Leaf.ensures.name)

pub returns-in-Leaf-clause-step : goal.returns-in-Leaf-clause-step
returns-in-Leaf-clause-step g c path pairs layout by d =
    leaf_step by d c.in-Leaf.ensures.name (sym c.leaf_at-leaf.ensures) c.kind_at_leaf.result c.kind_at_leaf.ensures.kind

pub step_at_inner-requires : goal.step_at_inner-requires
step_at_inner-requires g c =
    let (path, at) = c.requires.at in (
      search rules,
      (
        c.requires.root,
        (
          c.in-Inner.ensures.proper,
          ((path, λ pairs layout by. at_named by (at pairs layout by) c.in-Inner.ensures.name), c.requires.guide),
        ),
      ),
    )

pub returns-in-Inner-clause-step : goal.returns-in-Inner-clause-step
returns-in-Inner-clause-step g c path pairs layout by d =
    step_named by d c.in-Inner.ensures.name c.step_at_inner.result (c.step_at_inner.ensures.step path pairs layout by (at_named by d c.in-Inner.ensures.name))

pub returns-in-Inner-clause-visits : goal.returns-in-Inner-clause-visits
returns-in-Inner-clause-visits g c =
    rw (sym c.in-Inner.ensures.name) c.step_at_inner.ensures.visits

pub returns-in-Leaf-clause-visits : goal.returns-in-Leaf-clause-visits
returns-in-Leaf-clause-visits g c =
    record {
      number = 1;
      counted = c.count_one.ensures;
      is_number = record { at_least = omega arith; at_most = omega arith; if_whole = λ pairs layout by whole. refl };
    }
