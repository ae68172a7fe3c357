use Rattle.art_tree_tests.specs.Trees.{HasTree}
use Rattle.art_tree_tests.proofs.tests.locality.count_small_steps.Given as goal

-- there is the tree of some pairs
abbrev pub invariant-loop-number : goal.invariant-loop-number
invariant-loop-number g l = HasTree g.row.P l.store l.root
