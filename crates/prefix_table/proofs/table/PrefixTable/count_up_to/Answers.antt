use Rattle.std.proofs.Common.{ℕ, ◌<◌, ◌≤◌, length, subst}
use Rattle.std.specs.List.{AllPairs}
use Rattle.prefix_table.specs.Networks.{IsUpTo, Precedes, start_of}
use Rattle.prefix_table.specs.Parts.{AreStarted, network_in}
use Rattle.prefix_table.proofs.PartLemmas.{others_start_later, started_entries}
use Rattle.prefix_table.proofs.NetworkTables.{entries_in_order}
use Rattle.prefix_table.proofs.table.PrefixTable.count_up_to.Goals as goal

pub returns-clause-started : goal.returns-clause-started
returns-clause-started g c =
    subst (λ entries. AreStarted entries c.args.address c.count_up_to.result.count) c.self.view_is
    (started_entries c.self.inside.rows c.self.inside.values.items c.self.invariant.table c.args.address c.count_up_to.result.count c.count_up_to.ensures.count)

pub returns-clause-order : goal.returns-clause-order
returns-clause-order g c =
    subst (AllPairs (λ a b. Precedes a.0 b.0)) c.self.view_is
    (entries_in_order c.self.inside.rows c.self.inside.values.items c.self.invariant.table)

pub returns-clause-others : goal.returns-clause-others
returns-clause-others g c =
    subst (λ entries. (k : ℕ) → c.count_up_to.result.count ≤ k → k < length entries → ¬ IsUpTo (start_of (network_in entries k)) c.args.address)
    c.self.view_is
    (others_start_later c.self.inside.rows c.self.inside.values.items c.self.invariant.table c.args.address c.count_up_to.result.count c.count_up_to.ensures.count)
