use Rattle.std.proofs.Common.{arith, ◌+◌, rules, ◌≡◌, ap, sym, ◌∙◌}
use Rattle.art_model.specs.Prelude.{is_front, leaf_names}
use Rattle.art_reading.proofs.Counters.{count_both}
use Rattle.art_reading.proofs.Levels.{root_levels, under_root}
use Rattle.art_reading.proofs.PartNodes.{first_is, first_there, node_full}
use Rattle.art_ranges.proofs.PartIterations.{node_segment, none_begins, others_begin, these_begin}
use Rattle.art_ranges.proofs.range.prefix_visiting.Goals as goal

pub returns-in_default-clause-leaves : goal.returns-in_default-clause-leaves
returns-in_default-clause-leaves g c pairs layout by = rw c.empty.ensures (none_begins by _ (c.in_default.ensures.end pairs layout by))

pub walk_to_end_visiting-requires : goal.walk_to_end_visiting-requires
walk_to_end_visiting-requires g c =
    let (pairs, layout, by) = c.requires in
    let at = (c.in-Some.ensures.end pairs layout by).0 in
    (search rules, (at.at.node, node_full by at.at))

pub leaf_at-leaf-requires : goal.leaf_at-leaf-requires
leaf_at-leaf-requires g c =
    let (pairs, layout, by) = c.requires in
    let at = (c.in-Some.ensures.end pairs layout by).0 in
    (search rules, first_there by at.at ((c.walk_to_end_visiting.ensures.leads at.at.node (node_full by at.at)).0))

pub returns-then-not-starts_with-clause-leaves : goal.returns-then-not-starts_with-clause-leaves
returns-then-not-starts_with-clause-leaves g c pairs layout by =
    let key = g.B.KeyBytes.key c.args.prefix in
    let at = (c.in-Some.ensures.end pairs layout by).0 in
    let first = (c.walk_to_end_visiting.ensures.leads at.at.node (node_full by at.at)).0 in
    let told = first_is by at.at first (λ x. is_front key (g.K.AsBytes.bytes x.0) ≡ at.begin) at.alike _ (sym c.leaf_at-leaf.ensures) in
    let tested =
    ap (is_front key) (sym c.as_bytes.ensures) ∙ ap (λ k. is_front k c.as_bytes.result.now) (sym c.in-Some.ensures.same) ∙ sym c.starts_with.ensures.starts in
    rw c.empty-then-not-starts_with.ensures (others_begin by _ at (sym told ∙ tested ∙ c.if-not-starts_with.true))

pub walk_to_end_visiting-requires-2 : goal.walk_to_end_visiting-requires-2
walk_to_end_visiting-requires-2 g c =
    let (pairs, layout, by) = c.requires in
    let at = (c.in-Some.ensures.end pairs layout by).0 in
    (search rules, (at.at.node, node_full by at.at))

pub new-requires : goal.new-requires
new-requires g c =
    let (pairs, layout, by) = c.requires in
    let at = (c.in-Some.ensures.end pairs layout by).0 in
    let full = node_full by at.at in
    let first = (c.walk_to_end_visiting.ensures.leads at.at.node full).0 in
    let last = (c.walk_to_end_visiting-2.ensures.leads at.at.node full).0 in
    (search rules, (leaf_names at.at.node, record { ends = (first.name_is, last.name_is); segment = node_segment by at.at }))

pub returns-clause-leaves : goal.returns-clause-leaves
returns-clause-leaves g c pairs layout by =
    let key = g.B.KeyBytes.key c.args.prefix in
    let at = (c.in-Some.ensures.end pairs layout by).0 in
    let full = node_full by at.at in
    let first = (c.walk_to_end_visiting.ensures.leads at.at.node full).0 in
    let last = (c.walk_to_end_visiting-2.ensures.leads at.at.node full).0 in
    let told = first_is by at.at first (λ x. is_front key (g.K.AsBytes.bytes x.0) ≡ at.begin) at.alike _ (sym c.leaf_at-leaf.ensures) in
    let tested =
    ap (is_front key) (sym c.as_bytes.ensures) ∙ ap (λ k. is_front k c.as_bytes.result.now) (sym c.in-Some.ensures.same) ∙ sym c.starts_with.ensures.starts in
    rw c.new.ensures (these_begin by _ at (sym told ∙ tested ∙ c.if-not-starts_with.false) first last)

-- ---- the counter
pub returns-in_default-clause-visits : goal.returns-in_default-clause-visits
returns-in_default-clause-visits g c =
    let down = c.in_default.ensures.visits in
    record {
      number = down.number;
      counted = down.counted;
      is_number = λ pairs layout by.
          let (seen, few) = down.is_number pairs layout by in
          let all = root_levels by in
          (omega arith, omega arith);
    }

pub returns-then-not-starts_with-clause-visits : goal.returns-then-not-starts_with-clause-visits
returns-then-not-starts_with-clause-visits g c =
    let down = c.in-Some.ensures.visits in
    let first = c.walk_to_end_visiting.ensures.visits in
    let levels = first.is_number in
    record {
      number = down.number + first.number + 1;
      counted = count_both _ _ _ (count_both _ _ _ down.counted first.counted) c.count_one.ensures;
      is_number = λ pairs layout by.
          let (seen, few) = down.is_number pairs layout by in
          let all = root_levels by in
          (omega arith, omega arith);
    }

pub returns-clause-visits : goal.returns-clause-visits
returns-clause-visits g c =
    let down = c.in-Some.ensures.visits in
    let first = c.walk_to_end_visiting.ensures.visits in
    let last = c.walk_to_end_visiting-2.ensures.visits in
    let levels = first.is_number in
    let others = last.is_number in
    record {
      number = down.number + first.number + 1 + last.number;
      counted = count_both _ _ _ (count_both _ _ _ (count_both _ _ _ down.counted first.counted) c.count_one.ensures) last.counted;
      is_number = λ pairs layout by.
          let (seen, few) = down.is_number pairs layout by in
          let all = root_levels by in
          let at = (c.in-Some.ensures.end pairs layout by).0.at in
          let below = under_root by at.path at.node at.whole at.named in
          (omega arith, omega arith);
    }
