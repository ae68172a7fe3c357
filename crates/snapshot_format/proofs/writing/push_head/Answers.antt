use Rattle.std.proofs.Common.{◌++◌, ◌∷◌, [], ap, ◌∙◌, append_assoc}
use Rattle.std.proofs.lemmas.Result.{on_ok_weaker}
use Rattle.snapshot_format.specs.Numbers.{number_bytes}
use Rattle.snapshot_format.specs.Snapshots.{head_bytes, magic}
use Rattle.snapshot_format.proofs.writing.push_head.Goals as goal

pub returns : goal.returns
unfolding head_bytes
returns c =
    on_ok_weaker c.push_number.result (λ is.
    is ∙ ap (λ bs. bs ++ number_bytes c.args.count) (c.in_ok-push_byte.ensures ∙ ap (λ bs. bs ++ 1 ∷ []) c.in_ok-extend_from_slice.ensures.items ∙ append_assoc c.args.out.now.items magic (1 ∷ []))
    ∙ append_assoc c.args.out.now.items (magic ++ 1 ∷ []) (number_bytes c.args.count)) c.push_number.ensures
