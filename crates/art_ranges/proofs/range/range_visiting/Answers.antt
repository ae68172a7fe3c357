use Rattle.std.proofs.Common.{arith, ◌+◌, rules, ap, sym, ◌∙◌, option_map}
use Rattle.std.specs.Range.Bound.{bound_map}
use Rattle.art_model.specs.Prelude.{leaf_name, of_key, is_between, is_from, is_up_to, leaves_where}
use Rattle.art_ranges.specs.PartReadings.{nodes_to}
use Rattle.art_ranges.proofs.Bounds.{first_past, last_is_there, none_after, span_walk}
use Rattle.art_reading.proofs.Counters.{count_both}
use Rattle.art_ranges.proofs.PartReadings.{if_any_most, if_no_first, if_none}
use Rattle.art_ranges.proofs.range.range_visiting.Goals as goal

pub returns-in_default-clause-leaves : goal.returns-in_default-clause-leaves
returns-in_default-clause-leaves g c pairs layout by =
    rw c.empty.ensures
    (none_after by (bound_map g.B.KeyBytes.key c.args.from) (bound_map g.B.KeyBytes.key c.args.to) (c.in_default.ensures.leaf pairs layout by))

pub returns-then-not-ends_after-clause-leaves : goal.returns-then-not-ends_after-clause-leaves
returns-then-not-ends_after-clause-leaves g c pairs layout by =
    rw c.empty-then-not-ends_after.ensures
    (first_past by (bound_map g.B.KeyBytes.key c.args.from) (bound_map g.B.KeyBytes.key c.args.to) (c.in-Some.ensures.leaf pairs layout by)
    (sym c.leaf_at-leaf.ensures)
    (ap (is_up_to (bound_map g.B.KeyBytes.key c.args.to)) (sym c.as_bytes.ensures) ∙ sym c.ends_after.ensures ∙ c.if-not-ends_after.true))

pub unwrap-last-requires : goal.unwrap-last-requires
unwrap-last-requires g c =
    let (pairs, layout, by) = c.requires in
    last_is_there by (bound_map g.B.KeyBytes.key c.args.from) (bound_map g.B.KeyBytes.key c.args.to) (c.in-Some.ensures.leaf pairs layout by)
    (sym c.leaf_at-leaf.ensures)
    (ap (is_up_to (bound_map g.B.KeyBytes.key c.args.to)) (sym c.as_bytes.ensures) ∙ sym c.ends_after.ensures ∙ c.if-not-ends_after.false) _
    (c.last_up_to_visiting.ensures.leaf pairs layout by)

pub new-requires : goal.new-requires
new-requires g c =
    let (pairs, layout, by) = c.requires in (
      search rules,
      (
        leaves_where (λ x. is_between (bound_map g.B.KeyBytes.key c.args.from) (bound_map g.B.KeyBytes.key c.args.to) (g.K.AsBytes.bytes x.0)) layout,
        span_walk by (bound_map g.B.KeyBytes.key c.args.from) (bound_map g.B.KeyBytes.key c.args.to) (c.in-Some.ensures.leaf pairs layout by)
            (sym c.leaf_at-leaf.ensures)
            (ap (is_up_to (bound_map g.B.KeyBytes.key c.args.to)) (sym c.as_bytes.ensures) ∙ sym c.ends_after.ensures
            ∙ c.if-not-ends_after.false) (ap (option_map leaf_name) (sym c.unwrap-last.ensures)
            ∙ c.last_up_to_visiting.ensures.leaf pairs layout by),
      ),
    )

pub returns-clause-leaves : goal.returns-clause-leaves
returns-clause-leaves g c pairs layout by =
    rw c.new.ensures (span_walk by (bound_map g.B.KeyBytes.key c.args.from) (bound_map g.B.KeyBytes.key c.args.to)
    (c.in-Some.ensures.leaf pairs layout by) (sym c.leaf_at-leaf.ensures)
    (ap (is_up_to (bound_map g.B.KeyBytes.key c.args.to)) (sym c.as_bytes.ensures) ∙ sym c.ends_after.ensures ∙ c.if-not-ends_after.false)
    (ap (option_map leaf_name) (sym c.unwrap-last.ensures) ∙ c.last_up_to_visiting.ensures.leaf pairs layout by))

-- ---- the counter
pub returns-in_default-clause-visits : goal.returns-in_default-clause-visits
returns-in_default-clause-visits g c =
    let first = c.in_default.ensures.visits in
    record {
      number = first.number;
      counted = first.counted;
      is_number = λ pairs layout by.
          let (seen, few) = first.is_number pairs layout by in
          let at = if_no_first _ 1 (c.in_default.ensures.leaf pairs layout by) in
          let within = if_none _ (nodes_to (of_key g.K.AsBytes.bytes) (bound_map g.B.KeyBytes.key c.args.to) layout)
          (none_after by (bound_map g.B.KeyBytes.key c.args.from) (bound_map g.B.KeyBytes.key c.args.to) (c.in_default.ensures.leaf pairs layout by)).ends in
          (omega arith, omega arith);
    }

pub returns-then-not-ends_after-clause-visits : goal.returns-then-not-ends_after-clause-visits
returns-then-not-ends_after-clause-visits g c =
    let first = c.in-Some.ensures.visits in
    record {
      number = first.number + 1;
      counted = count_both _ _ _ first.counted c.count_one.ensures;
      is_number = λ pairs layout by.
          let (seen, few) = first.is_number pairs layout by in
          let at = if_any_most (leaves_where (λ x. is_from (bound_map g.B.KeyBytes.key c.args.from) (g.K.AsBytes.bytes x.0)) layout) 1 in
          let past = first_past by (bound_map g.B.KeyBytes.key c.args.from) (bound_map g.B.KeyBytes.key c.args.to)
          (c.in-Some.ensures.leaf pairs layout by) (sym c.leaf_at-leaf.ensures)
          (ap (is_up_to (bound_map g.B.KeyBytes.key c.args.to)) (sym c.as_bytes.ensures) ∙ sym c.ends_after.ensures ∙ c.if-not-ends_after.true) in
          let within = if_none _ (nodes_to (of_key g.K.AsBytes.bytes) (bound_map g.B.KeyBytes.key c.args.to) layout) past.ends in
          (omega arith, omega arith);
    }

pub returns-clause-visits : goal.returns-clause-visits
returns-clause-visits g c =
    let first = c.in-Some.ensures.visits in
    let last = c.last_up_to_visiting.ensures.visits in
    record {
      number = first.number + 1 + last.number;
      counted = count_both _ _ _ (count_both _ _ _ first.counted c.count_one.ensures) last.counted;
      is_number = λ pairs layout by.
          let from = bound_map g.B.KeyBytes.key c.args.from in
          let to = bound_map g.B.KeyBytes.key c.args.to in
          let (seen, few) = first.is_number pairs layout by in
          let (all, more) = last.is_number pairs layout by in
          let at = if_any_most (leaves_where (λ x. is_from from (g.K.AsBytes.bytes x.0)) layout) 1 in
          let within = if_any_most (leaves_where (λ x. is_between from to (g.K.AsBytes.bytes x.0)) layout) (nodes_to (of_key g.K.AsBytes.bytes) to layout) in
          (omega arith, omega arith);
    }
