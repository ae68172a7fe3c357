use Rattle.std.proofs.Common.{◌+◌, ◌-◌, ◌^◌, min, ap, ◌∙◌}
use Rattle.text_programs.proofs.SumLemmas.{summed}
use Rattle.text_programs.proofs.word_counts.merging.add_count.Goals as goal

pub returns-clause-added : goal.returns-clause-added
returns-clause-added c before kept =
    summed before c.args.word.now c.args.number c.saturating_add.result c.args.counts.now c.requires.some
    (c.saturating_add.ensures ∙ ap (λ n. min (n + c.args.number) (2 ^ 64 - 1)) c.in-Ok.ensures.value) kept
