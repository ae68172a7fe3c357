use Rattle.std.proofs.Common.{Some, ap, ◌∙◌, ◌+◌, ◌-◌, ◌^◌, min}
use Rattle.std.specs.Bool.{⊤}
use Rattle.art_operations.specs.Escapes.{escape}
use Rattle.art_operations.proofs.CallerLemmas.{escape_injective, others_by_put, value_here}
use Rattle.uses.proofs.tally.add.Goals as goal

pub returns-clause-counted : goal.returns-clause-counted
returns-clause-counted c =
    value_here escape c.args.word.now c.saturating_add.result c.args.tally.now
    ∙ ap Some (c.saturating_add.ensures ∙ ap (λ n. min (n + 1) (2 ^ 64 - 1)) c.in_ok-count.ensures.value)

pub returns-clause-others : goal.returns-clause-others
returns-clause-others c other off =
    others_by_put escape (λ t. ⊤) escape_injective c.args.word.now tt c.saturating_add.result c.args.tally.now other tt off
