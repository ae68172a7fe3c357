use Rattle.text_programs.proofs.FrequencyLemmas.{most_written}
use Rattle.text_programs.proofs.word_counts.top.write_most_frequent.Goals as goal

pub returns : goal.returns
returns g c =
    most_written (λ row. (row.1.now, row.0.0)) c.write_rows.result c.in_ok-rows.rows.items c.sort_rows.new.rows.items c.truncate.new.self.items c.deref.result.now
    c.args.counts.now c.args.most (g.W.Write.contents c.args.output.now) (g.W.Write.contents c.write_rows.new.output) c.in_ok-rows.ensures
    c.in_ok-sort_rows.ensures c.truncate.ensures.items c.deref.ensures.value c.write_rows.ensures
