use Rattle.art_model.specs.Pairs.{of_key}
use Rattle.art_model.specs.Roots.{IsCanonicalRoot}
use Rattle.art_test_support.proofs.crowds.fill.Given as goal

-- the tree is unchanged
abbrev pub invariant-loop-kind : goal.invariant-loop-kind
invariant-loop-kind g l = IsCanonicalRoot (of_key (λ key. key.items)) g.row.P l.store l.fn.root
