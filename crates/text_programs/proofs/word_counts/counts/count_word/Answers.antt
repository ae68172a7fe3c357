use Rattle.std.proofs.Common.{◌+◌, ◌-◌, ◌^◌, min, ap, ◌∙◌}
use Rattle.text_programs.proofs.Tallies.{counted}
use Rattle.text_programs.proofs.word_counts.counts.count_word.Goals as goal

pub returns-clause-counted : goal.returns-clause-counted
returns-clause-counted c before kept =
    counted before c.args.word.now c.saturating_add.result c.args.counts.now
    (c.saturating_add.ensures ∙ ap (λ n. min (n + 1) (2 ^ 64 - 1)) c.in-Ok.ensures.value) kept
