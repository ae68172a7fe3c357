use Rattle.std.proofs.Common.{ap, sym, ◌∙◌, ◌++◌, ◌∷◌, []}
use Rattle.art_loading.specs.EdgeSteps.{path_by}
use Rattle.art_reading.specs.declared.path.TreePath.TheVariants.{Root}
use Rattle.art_loading.proofs.StepsDown.{path_by-two}
use Rattle.art_loading.proofs.edge.path_down.Goals as goal

pub returns : goal.returns
returns c =
    sym (ap (path_by Root) (c.in-Some.ensures.cases.0 ∙ ap (λ l. l ++ c.in-Some.last.now ∷ []) c.in-Some-split_last.ensures.cases.0)
    ∙ path_by-two Root c.in-Some-split_last.field-0-1.now c.in-Some-split_last.upper.now c.in-Some.last.now)
