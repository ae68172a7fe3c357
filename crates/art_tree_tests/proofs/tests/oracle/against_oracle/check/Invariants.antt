use Rattle.std.proofs.Common.{ℕ, List}
use Rattle.art_test_support.specs.declared.tagged.Tagged.{Tagged}
use Rattle.art_model.specs.Canonical.{IsCanonical}
use Rattle.art_model.specs.Pairs.{of_key}
use Rattle.art_tree_tests.proofs.tests.oracle.against_oracle.check.Given as goal

-- the root is the canonical tree of some pairs
abbrev pub invariant-loop-turn : goal.invariant-loop-turn
invariant-loop-turn g l = (pairs : List (Tagged × ℕ)) × IsCanonical (of_key (λ key. key.bytes.items)) g.row.P l.first l.root pairs
