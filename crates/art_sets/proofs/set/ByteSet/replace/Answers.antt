use Rattle.std.proofs.Common.{ap, ◌∙◌}
use Rattle.art_model.specs.Prelude.{replace_key}
use Rattle.art_iterating.specs.MapItems.{keys_of}
use Rattle.art_sets.proofs.SetLaws.{keys_replaced}
use Rattle.art_sets.proofs.set.ByteSet.replace.Goals as goal
use Rattle.art_sets.proofs.set.ByteSet.replace.Goals.{in-Err, in-Ok-None, in-Ok-Some}

pub returns-clause-keys : goal.returns-clause-keys
returns-clause-keys g c =
    let bytes = g.K.AsBytes.bytes in
    let replaced = keys_replaced bytes c.args.key tt c.self.inside.map ∙ ap (replace_key bytes c.args.key) c.self.view_is in
    elim c.match-replace.branch [
      | in-Ok-Some w ↦ rw w.result-is (ap keys_of w.in-Ok-Some.ensures.pairs ∙ replaced)
      | in-Ok-None w ↦ rw w.result-is (ap keys_of w.in-Ok-None.ensures.pairs ∙ replaced)
      | in-Err w ↦ rw w.result-is tt
    ]
