use Rattle.std.proofs.Common.{arith, rules, ap, sym, ◌∙◌}
use Rattle.std.specs.Range.Bound.{bound_map}
use Rattle.art_model.specs.Prelude.{is_before, first_of, is_from, leaves_where}
use Rattle.art_model.proofs.stores.StoreLaws.{has_children}
use Rattle.art_ranges.proofs.Bounds.{first_there, where_any, where_same}
use Rattle.art_reading.proofs.Levels.{root_levels}
use Rattle.art_reading.proofs.PartNodes.{leaf_is_there}
use Rattle.art_ranges.proofs.Spans.{not_not}
use Rattle.art_ranges.proofs.range.first_from_visiting.Goals as goal

pub walk_to_end_visiting-requires : goal.walk_to_end_visiting-requires
walk_to_end_visiting-requires g c =
    let (pairs, layout, by) = c.requires in
    (search rules, (layout, has_children _ _ _ _ _ layout by))

pub returns-in-Included-clause-leaf : goal.returns-in-Included-clause-leaf
returns-in-Included-clause-leaf g c pairs layout by =
    c.leaf_at_cut.ensures.leaf pairs layout by
    ∙ ap (λ b. first_of (leaves_where (λ x. is_from (bound_map g.B.KeyBytes.key b) (g.K.AsBytes.bytes x.0)) layout)) (sym c.in-Included.is)

pub returns-in-Included-clause-there : goal.returns-in-Included-clause-there
returns-in-Included-clause-there g c =
    let (pairs, layout, by) = c.requires in
    first_there by _ _ (c.leaf_at_cut.ensures.leaf pairs layout by)

pub returns-in-Excluded-clause-leaf : goal.returns-in-Excluded-clause-leaf
returns-in-Excluded-clause-leaf g c pairs layout by =
    c.leaf_at_cut-in-Excluded.ensures.leaf pairs layout by
    ∙ ap first_of (where_same _ (λ x. is_before (g.B.KeyBytes.key c.in-Excluded.bytes) (g.K.AsBytes.bytes x.0))
    (λ x. not_not (is_before (g.B.KeyBytes.key c.in-Excluded.bytes) (g.K.AsBytes.bytes x.0))) layout)
    ∙ ap (λ b. first_of (leaves_where (λ x. is_from (bound_map g.B.KeyBytes.key b) (g.K.AsBytes.bytes x.0)) layout)) (sym c.in-Excluded.is)

pub returns-in-Excluded-clause-there : goal.returns-in-Excluded-clause-there
returns-in-Excluded-clause-there g c =
    let (pairs, layout, by) = c.requires in
    first_there by _ _ (c.leaf_at_cut-in-Excluded.ensures.leaf pairs layout by)

pub returns-in-Unbounded-clause-leaf : goal.returns-in-Unbounded-clause-leaf
returns-in-Unbounded-clause-leaf g c pairs layout by =
    sym (c.walk_to_end_visiting.ensures.leads layout (has_children _ _ _ _ _ layout by)).0.name_is ∙ ap first_of (sym (where_any layout))
    ∙ ap (λ b. first_of (leaves_where (λ x. is_from (bound_map g.B.KeyBytes.key b) (g.K.AsBytes.bytes x.0)) layout))
    (sym c.in-Unbounded.is)

pub returns-in-Unbounded-clause-there : goal.returns-in-Unbounded-clause-there
returns-in-Unbounded-clause-there g c =
    let (pairs, layout, by) = c.requires in
    leaf_is_there c.args.store.now by.stands.0.holds (c.walk_to_end_visiting.ensures.leads layout (has_children _ _ _ _ _ layout by)).0.has

-- ---- the counter
pub returns-in-Included-clause-visits : goal.returns-in-Included-clause-visits
returns-in-Included-clause-visits g c = rw c.in-Included.is c.leaf_at_cut.ensures.visits

pub returns-in-Excluded-clause-visits : goal.returns-in-Excluded-clause-visits
returns-in-Excluded-clause-visits g c = rw c.in-Excluded.is c.leaf_at_cut-in-Excluded.ensures.visits

pub returns-in-Unbounded-clause-visits : goal.returns-in-Unbounded-clause-visits
returns-in-Unbounded-clause-visits g c =
    let down = c.walk_to_end_visiting.ensures.visits in
    let few = down.is_number in
    record {
      number = down.number;
      counted = down.counted;
      is_number = λ pairs layout by. let all = root_levels by in
          rw c.in-Unbounded.is (omega arith, omega arith);
    }
