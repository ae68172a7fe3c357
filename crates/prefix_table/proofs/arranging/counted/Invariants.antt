use Rattle.prefix_table.specs.Arranging.{AreCounted}
use Rattle.prefix_table.proofs.arranging.counted.Given as goal

abbrev pub invariant-loop-number : goal.invariant-loop-number
invariant-loop-number l = AreCounted l.number l.numbers.items
