use Rattle.art_model.specs.Pairs.{of_key}
use Rattle.art_model.specs.Roots.{IsCanonicalRoot}
use Rattle.art_test_support.proofs.crowds.place_beside.Given as goal

-- the tree is unchanged
abbrev pub invariant-loop : goal.invariant-loop
invariant-loop g l = IsCanonicalRoot (of_key (λ key. key.items)) g.row.P l.store l.fn.root
