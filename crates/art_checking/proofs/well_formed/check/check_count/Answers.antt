use Rattle.std.proofs.Common.{◌<◌, ◌≤◌, ◌∙◌, ap, length, subst}
use Rattle.art_model.specs.Prelude.{ref_kind, ref_view, kind_least, wrong_children_count}
use Rattle.art_checking.specs.Checked.{Says}
use Rattle.art_checking.proofs.well_formed.check.check_count.Goals as goal

pub returns-then-start-count-clause-enough : goal.returns-then-start-count-clause-enough
returns-then-start-count-clause-enough g c =
    let least = c.start.ensures ∙ c.capacity_range.ensures.least ∙ ap kind_least c.node_type-kind.ensures.kind in
    subst (λ n. kind_least (ref_kind c.args.node) ≤ n) c.num_children-count.ensures.value
    (subst (λ m. m ≤ c.num_children-count.result) least c.if-start-count.true)

pub returns-clause-fault : goal.returns-clause-fault
returns-clause-fault g c =
    let count = c.num_children-count.ensures.value in
    let least = c.start.ensures ∙ c.capacity_range.ensures.least ∙ ap kind_least c.node_type-kind.ensures.kind in (
      subst (λ k. Says (wrong_children_count c.args.place.now k (length (ref_view c.args.node).children)) c.wrong_children_count.result)
          c.node_type-kind.ensures.kind
          (subst (λ n. Says (wrong_children_count c.args.place.now c.node_type-kind.result n) c.wrong_children_count.result)
          count c.wrong_children_count.ensures),
      subst (λ n. n < kind_least (ref_kind c.args.node)) count (subst (λ m. c.num_children-count.result < m) least c.if-start-count.false),
    )

-- a node with fewer children is never passed
pub returns-clause-enough : goal.returns-clause-enough
returns-clause-enough g c = tt
