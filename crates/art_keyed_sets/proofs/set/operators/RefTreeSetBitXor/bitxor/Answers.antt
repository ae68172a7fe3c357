use Rattle.std.proofs.Common.{subst, ◌∙◌}
use Rattle.std.proofs.lemmas.Result.{IfOk-weaker}
use Rattle.art_keyed_sets.specs.SetClones.{AreAddedClones}
use Rattle.art_keyed_sets.proofs.SetClones.{all_came}
use Rattle.art_keyed_sets.proofs.set.operators.RefTreeSetBitXor.bitxor.Goals as goal

pub returns : goal.returns
returns g c =
    IfOk-weaker c.clones_of.result _ _ (λ set made. subst (λ keys. AreAddedClones g.K.AsBytes.bytes g.K.Clone.is_clone keys set)
    (all_came _ made.0 made.1 ∙ c.symmetric_difference.ensures) made.2) c.clones_of.ensures
