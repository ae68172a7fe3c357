use Rattle.std.proofs.Common.{All}
use Rattle.prefix_table.specs.Networks.{IsNetwork}
use Rattle.prefix_table_tests.proofs.tests.drawn.networks_of.Given as goal

abbrev pub invariant-loop-drawn : goal.invariant-loop-drawn
invariant-loop-drawn l = All IsNetwork l.networks.items
