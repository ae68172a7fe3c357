use Rattle.std.proofs.Common.{rules, ◌+◌, ap, length, refl, sym, arith}
use Rattle.art_reading.proofs.EndNodes.{prefix_fits, mismatch_fits, inner_there, shown_there, prefix_step, mismatch_step}
use Rattle.art_reading.proofs.Counters.{count_both}
use Rattle.art_reading.proofs.Levels.{end_costs, lower, past_costs, stored_at}
use Rattle.art_reading.proofs.end_node.step_at_inner.Goals as goal

pub inner_at-node-requires : goal.inner_at-node-requires
inner_at-node-requires g c =
    let (pairs, layout, by) = c.requires.root in
    (search rules, (search rules, inner_there by (c.requires.at.1 pairs layout by) c.requires.inner refl))

pub step_past_prefix-requires : goal.step_past_prefix-requires
step_past_prefix-requires g c =
    let within = prefix_fits c.requires.root c.requires.at.1 (c.in-Ok.ensures.compared c.requires.at.0) in
    let same = ap length c.match_full_prefix.ensures.same in
    omega arith

pub returns-in-Ok-clause-step : goal.returns-in-Ok-clause-step
returns-in-Ok-clause-step g c path pairs layout by d =
    let same = c.match_full_prefix.ensures.same in
    prefix_step by d (shown_there by d c.requires.inner refl (sym c.inner_at-node.ensures.view)) (c.in-Ok.ensures.compared path pairs layout by d)
    (rw same at c.step_past_prefix.ensures.ends) (rw same at c.step_past_prefix.ensures.into) (rw same at c.step_past_prefix.ensures.down)

pub end_in_prefix-requires : goal.end_in_prefix-requires
end_in_prefix-requires g c =
    let within = mismatch_fits c.requires.root c.requires.at.1 (c.in-Err.ensures.compared c.requires.at.0) in
    let same = ap length c.match_full_prefix.ensures.same in
    omega arith

pub returns-in-Err-clause-step : goal.returns-in-Err-clause-step
returns-in-Err-clause-step g c path pairs layout by d =
    let same = c.match_full_prefix.ensures.same in
    mismatch_step by d (shown_there by d c.requires.inner refl (sym c.inner_at-node.ensures.view)) (c.in-Err.ensures.compared path pairs layout by d)
    (rw same at c.end_in_prefix.ensures.ends) (rw same at c.end_in_prefix.ensures.parts)

pub returns-in-Ok-clause-visits : goal.returns-in-Ok-clause-visits
returns-in-Ok-clause-visits g c =
    let same = c.match_full_prefix.ensures.same in
    let (pairs, layout, by) = c.requires.root in
    let d = c.requires.at.1 pairs layout by in
    let match = c.in-Ok.ensures.visits in
    let few = match.is_number.0 in
    record {
      number = 1 + match.number;
      counted = count_both _ _ _ c.count_one.ensures match.counted;
      is_number = record {
        at_least = omega arith;
        at_most = past_costs c.args.store.now c.args.root _ _ _ (1 + match.number) (g.B.KeyBytes.key c.args.key.now) _ _
            (λ to there. lower by d.frames d.node d.whole d.named _ d.radix _ _
            (shown_there by d c.requires.inner refl (sym c.inner_at-node.ensures.view)) _ to there)
            (omega arith) (rw same at c.step_past_prefix.ensures.ends) (rw same at c.step_past_prefix.ensures.into)
            (rw same at c.step_past_prefix.ensures.down);
        if_whole = λ pairs layout by whole. ap (λ n. 1 + n)
            (match.is_number.1 (stored_at by (c.requires.at.1 pairs layout by) c.requires.inner (sym c.inner_at-node.ensures.view) whole));
      };
    }

pub returns-in-Err-clause-visits : goal.returns-in-Err-clause-visits
returns-in-Err-clause-visits g c =
    let same = c.match_full_prefix.ensures.same in
    let match = c.in-Err.ensures.visits in
    let few = match.is_number.0 in
    record {
      number = 1 + match.number;
      counted = count_both _ _ _ c.count_one.ensures match.counted;
      is_number = record {
        at_least = omega arith;
        at_most = end_costs c.args.store.now c.args.root _ _ _
            (1 + match.number) (g.B.KeyBytes.key c.args.key.now) _ (rw same at c.end_in_prefix.ensures.ends) (rw same at c.end_in_prefix.ensures.parts)
            (omega arith) (omega arith);
        if_whole = λ pairs layout by whole. ap (λ n. 1 + n)
            (match.is_number.1 (stored_at by (c.requires.at.1 pairs layout by) c.requires.inner (sym c.inner_at-node.ensures.view) whole));
      };
    }
