use Rattle.std.proofs.Common.{◌++◌, map, ap, ◌∙◌}
use Rattle.text_programs.proofs.word_counts.top.rows_of.Goals as goal

pub loop-word-init : goal.loop-word-init
loop-word-init c =
    ap (λ xs. map (λ row. (row.1.now, row.0.0)) xs ++ c.into_iter-word-iterator.result) c.new-rows.ensures.items
    ∙ (c.into_iter-word-iterator.ensures.into_iter_gives ∙ c.iter-word-items.ensures.pairs)
