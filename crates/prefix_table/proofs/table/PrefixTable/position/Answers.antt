use Rattle.std.proofs.Common.{subst}
use Rattle.std.specs.List.{All, AllPairs}
use Rattle.prefix_table.specs.Networks.{IsNetwork, Precedes}
use Rattle.prefix_table.specs.Parts.{IsPositionIn}
use Rattle.prefix_table.proofs.PartLemmas.{position_in}
use Rattle.prefix_table.proofs.NetworkTables.{entries_are_networks, entries_in_order}
use Rattle.prefix_table.proofs.table.PrefixTable.position.Goals as goal

pub returns : goal.returns
returns g c = record {
  position =
      subst (λ entries. IsPositionIn entries c.args.network c.position.result) c.self.view_is
      (position_in c.self.inside.rows c.self.inside.values.items c.self.invariant.table c.args.network c.position.result c.position.ensures);
  order =
      subst (AllPairs (λ a b. Precedes a.0 b.0)) c.self.view_is
      (entries_in_order c.self.inside.rows c.self.inside.values.items c.self.invariant.table);
  networks =
      subst (All (λ entry. IsNetwork entry.0)) c.self.view_is
      (entries_are_networks c.self.inside.rows c.self.inside.values.items c.self.invariant.table);
}
