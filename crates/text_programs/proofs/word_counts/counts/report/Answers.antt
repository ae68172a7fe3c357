use Rattle.std.specs.Io.Buffered.{writer_contents}
use Rattle.text_programs.proofs.WordLines.{reported}
use Rattle.text_programs.proofs.word_counts.counts.report.Goals as goal

pub returns-clause-counts : goal.returns-clause-counts
returns-clause-counts g c =
    reported c.in_ok-counts.counts (g.R.Read.remaining c.args.input.now) (writer_contents g.W.Write.contents c.args.output.now)
    (writer_contents g.W.Write.contents c.write_counts.new.output)
    (writer_contents g.W.Write.contents c.flush.new.self) c.flush.result c.in_ok-counts.ensures c.in_ok-write_counts.ensures
    c.flush.ensures.bytes
