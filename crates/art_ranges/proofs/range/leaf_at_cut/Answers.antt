use Rattle.std.proofs.Common.{arith, rules, ◌≡◌, ◌+◌, ap, sym, ◌∙◌}
use Rattle.art_ranges.specs.Cuts.{is_before_cut}
use Rattle.art_reading.proofs.Counters.{count_both}
use Rattle.art_ranges.proofs.Cuts.{all_on_side, from_first, from_last, side}
use Rattle.art_reading.proofs.Levels.{root_levels}
use Rattle.art_reading.proofs.PartNodes.{first_is, first_there, leaf_is_there, node_full, node_holds}
use Rattle.art_ranges.proofs.range.leaf_at_cut.Goals as goal

pub walk_to_end_visiting-requires : goal.walk_to_end_visiting-requires
walk_to_end_visiting-requires g c =
    let (pairs, layout, by) = c.requires in
    let b = c.walk_beside-name.ensures.beside pairs layout by in
    (search rules, (b.at.node, node_full by b.at))

pub leaf_at-leaf-requires : goal.leaf_at-leaf-requires
leaf_at-leaf-requires g c =
    let (pairs, layout, by) = c.requires in
    let b = c.walk_beside-name.ensures.beside pairs layout by in
    (search rules, first_there by b.at ((c.walk_to_end_visiting.ensures.leads b.at.node (node_full by b.at)).0))

pub returns-then-not-is_after-clause-leaf : goal.returns-then-not-is_after-clause-leaf
returns-then-not-is_after-clause-leaf g c pairs layout by =
    let b = c.walk_beside-name.ensures.beside pairs layout by in
    let first = (c.walk_to_end_visiting.ensures.leads b.at.node (node_full by b.at)).0 in
    let told = first_is by b.at first (λ x. is_before_cut c.args.cut (g.B.KeyBytes.key c.args.bytes) (g.K.AsBytes.bytes x.0) ≡ side by b c.args.cut)
    (all_on_side by b c.args.cut) _ (sym c.leaf_at-leaf.ensures) in
    from_first by b c.args.cut (sym told ∙ ap (is_before_cut c.args.cut (g.B.KeyBytes.key c.args.bytes)) (sym c.as_bytes.ensures)
    ∙ sym (ap (λ k. is_before_cut c.args.cut k c.as_bytes.result.now) c.walk_beside-name.ensures.same) ∙ sym c.is_after.ensures ∙ c.if-not-is_after.true)
    first (sym c.leaf_at-leaf.ensures) c.args.end c.of.ensures

pub walk_to_end_visiting-requires-2 : goal.walk_to_end_visiting-requires-2
walk_to_end_visiting-requires-2 g c =
    let (pairs, layout, by) = c.requires in
    let b = c.walk_beside-name.ensures.beside pairs layout by in
    (search rules, (b.at.node, node_full by b.at))

pub leaf_at-leaf-requires-2 : goal.leaf_at-leaf-requires-2
leaf_at-leaf-requires-2 g c =
    let (pairs, layout, by) = c.requires in
    let b = c.walk_beside-name.ensures.beside pairs layout by in
    (search rules, leaf_is_there c.args.store.now (node_holds by b.at) ((c.walk_to_end_visiting-2.ensures.leads b.at.node (node_full by b.at)).0).has)

pub returns-clause-leaf : goal.returns-clause-leaf
returns-clause-leaf g c pairs layout by =
    let b = c.walk_beside-name.ensures.beside pairs layout by in
    let first = (c.walk_to_end_visiting.ensures.leads b.at.node (node_full by b.at)).0 in
    let told = first_is by b.at first (λ x. is_before_cut c.args.cut (g.B.KeyBytes.key c.args.bytes) (g.K.AsBytes.bytes x.0) ≡ side by b c.args.cut)
    (all_on_side by b c.args.cut) _ (sym c.leaf_at-leaf.ensures) in
    from_last by b c.args.cut (sym told ∙ ap (is_before_cut c.args.cut (g.B.KeyBytes.key c.args.bytes)) (sym c.as_bytes.ensures)
    ∙ sym (ap (λ k. is_before_cut c.args.cut k c.as_bytes.result.now) c.walk_beside-name.ensures.same) ∙ sym c.is_after.ensures ∙ c.if-not-is_after.false)
    ((c.walk_to_end_visiting-2.ensures.leads b.at.node (node_full by b.at)).0) (sym c.leaf_at-leaf-2.ensures) c.args.end c.of-2.ensures

-- ---- the counter
pub returns-then-not-is_after-clause-visits : goal.returns-then-not-is_after-clause-visits
returns-then-not-is_after-clause-visits g c =
    let beside = c.walk_beside-name.ensures.visits in
    let first = c.walk_to_end_visiting.ensures.visits in
    let few = beside.is_number.0 in
    let down = first.is_number in
    record {
      number = beside.number + first.number + 1;
      counted = count_both _ _ _ (count_both _ _ _ beside.counted first.counted) c.count_one.ensures;
      is_number = λ pairs layout by.
          let seen = beside.is_number.1 pairs layout by in
          let all = root_levels by in
          (omega arith, omega arith);
    }

pub returns-clause-visits : goal.returns-clause-visits
returns-clause-visits g c =
    let beside = c.walk_beside-name.ensures.visits in
    let first = c.walk_to_end_visiting.ensures.visits in
    let last = c.walk_to_end_visiting-2.ensures.visits in
    let few = beside.is_number.0 in
    let down = first.is_number in
    let other = last.is_number in
    record {
      number = beside.number + first.number + 1 + last.number + 1;
      counted = count_both _ _ _ (count_both _ _ _
          (count_both _ _ _ (count_both _ _ _ beside.counted first.counted) c.count_one.ensures) last.counted) c.count_one-2.ensures;
      is_number = λ pairs layout by.
          let seen = beside.is_number.1 pairs layout by in
          let all = root_levels by in
          (omega arith, omega arith);
    }
