use Rattle.std.proofs.Common.{◌≡◌, subst}
use Rattle.art_model.specs.Pairs.{of_key}
use Rattle.art_operations.proofs.CallerLemmas.{tree_radix}
use Rattle.uses.specs.Longest.{longest}
use Rattle.uses.proofs.Longest.{folds_longest}
use Rattle.uses.proofs.longest_key.Goals as goal

pub returns : goal.returns
returns g c pairs layout by =
    let folds = c.visit_with.ensures pairs layout by in
    subst (λ xs. c.visit_with.result ≡ longest (of_key g.K.AsBytes.bytes) xs) (tree_radix by).1
    (folds_longest g.K.AsBytes.bytes c.args.store.now layout _ _ c.visit_with.result by.stands.0.holds folds)
