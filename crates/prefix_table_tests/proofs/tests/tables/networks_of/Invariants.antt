use Rattle.std.proofs.Common.{All}
use Rattle.prefix_table.specs.Networks.{IsNetwork}
use Rattle.prefix_table_tests.proofs.tests.tables.networks_of.Given as goal

abbrev pub invariant-loop-text : goal.invariant-loop-text
invariant-loop-text l = All IsNetwork l.networks.items
