use Rattle.std.proofs.Common.{sym, ◌∙◌, arith}
use Rattle.prefix_table.specs.Entries.{shown}
use Rattle.prefix_table.proofs.PartLemmas.{network_at_is, not_there}
use Rattle.prefix_table.proofs.SortingLemmas.{other_networks}
use Rattle.prefix_table.proofs.table.PrefixTable.get.Goals as goal

pub returns-then-at-len-clause-none : goal.returns-then-at-len-clause-none
returns-then-at-len-clause-none g c =
    not_there c.args.self.now c.args.network c.position-at.result c.position-at.ensures.position c.position-at.ensures.order
    (λ d fits. absurd (omega (arith, c.if-at-len.true, c.len.ensures)))

pub returns-else-eq-clause-none : goal.returns-else-eq-clause-none
returns-else-eq-clause-none g c =
    let other = other_networks c.entry.result.0 c.args.network (sym c.eq.ensures ∙ c.if-eq.false) in
    not_there c.args.self.now c.args.network c.position-at.result c.position-at.ensures.position c.position-at.ensures.order
    (λ d fits same.
    other (network_at_is c.args.self.now c.position-at.result (shown c.entry.result) d fits c.entry.ensures ∙ same))
