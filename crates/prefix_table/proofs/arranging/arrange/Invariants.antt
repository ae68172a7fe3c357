use Rattle.prefix_table.proofs.ArrangeLemmas.{IsArrangedTo}
use Rattle.prefix_table.proofs.arranging.arrange.Given as goal

abbrev pub invariant-loop-at : goal.invariant-loop-at
invariant-loop-at g l = IsArrangedTo l.places l.fn.values l.values l.origins.items l.indexes.items l.at
