use Rattle.std.proofs.Common.{ap, ◌∙◌, is_some}
use Rattle.art_model.specs.Prelude.{has_key}
use Rattle.art_sets.proofs.SetLaws.{removed_has}
use Rattle.art_sets.proofs.set.ByteSet.remove_by.Goals as goal

pub returns-clause-removed : goal.returns-clause-removed
returns-clause-removed g c =
    let B = g.K.AsBytes.bytes in
    let key = g.Q.KeyBytes.key c.args.query in
    c.is_some.ensures ∙ ap is_some c.remove_by.ensures.removed ∙ removed_has B key c.self.inside.map ∙ ap (has_key B key) c.self.view_is
