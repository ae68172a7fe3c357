use Rattle.std.proofs.Common.{IfSome}
use Rattle.art_model.specs.Pairs.{of_key}
use Rattle.art_model.specs.Roots.{IsCanonicalRoot}
use Rattle.art_write_tests.proofs.tests.delete.shrink.take_all_out.Given as goal

-- there is a tree, or none is left
abbrev pub invariant-loop-turn : goal.invariant-loop-turn
invariant-loop-turn g l = IfSome l.root (λ root. IsCanonicalRoot (of_key (λ key. key.items)) g.row.P l.store root)
