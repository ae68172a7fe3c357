use Rattle.text_programs.proofs.FrequencyLemmas.{sorted_rows}
use Rattle.text_programs.proofs.word_counts.top.sort_rows.Goals as goal

pub returns : goal.returns
returns c = sorted_rows (λ row. (row.1.now, row.0.0)) c.sort.result c.args.rows.now.items c.sort.new.self.items c.sort.ensures.permutation c.sort.ensures.sorted
