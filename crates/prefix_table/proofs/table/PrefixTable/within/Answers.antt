use Rattle.std.proofs.Common.{ℕ, ◌<◌, ◌≤◌, ◌∙◌, length, subst}
use Rattle.prefix_table.specs.declared.network.Address.{Address}
use Rattle.prefix_table.specs.Networks.{IsUpTo, start_of}
use Rattle.prefix_table.specs.Parts.{AreStarted, network_in}
use Rattle.prefix_table.proofs.PartLemmas.{all_inside, position_is_early}
use Rattle.prefix_table.proofs.table.PrefixTable.within.Goals as goal

pub returns : goal.returns
returns g c =
    let entries = c.args.self.now in
    let started = subst (λ last. AreStarted entries last c.count_up_to-to.result) c.last_of.ensures.last c.count_up_to-to.ensures.started in
    let others =
    subst (λ (last : Address). (k : ℕ) → c.count_up_to-to.result ≤ k → k < length entries → ¬ IsUpTo (start_of (network_in entries k)) last)
    c.last_of.ensures.last c.count_up_to-to.ensures.others in
    let from = c.position-from.ensures in
    c.new.ensures
    ∙ all_inside entries c.args.network c.position-from.result from.position from.order c.requires from.networks c.count_up_to-to.result started others
    (position_is_early entries c.args.network c.position-from.result c.count_up_to-to.result from.position others)
