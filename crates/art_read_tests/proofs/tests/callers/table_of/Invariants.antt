use Rattle.std.proofs.Common.{All}
use Rattle.prefix_table.specs.Networks.{IsNetwork}
use Rattle.art_read_tests.proofs.tests.callers.table_of.Given as goal

abbrev pub invariant-loop-route : goal.invariant-loop-route
invariant-loop-route l = All (λ route. IsNetwork route.0) l.all.items
