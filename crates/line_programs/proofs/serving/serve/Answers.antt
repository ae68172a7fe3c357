use Rattle.std.specs.Io.Buffered.{reader_remaining, writer_contents}
use Rattle.line_programs.proofs.ServeLemmas.{still_answered}
use Rattle.line_programs.proofs.serving.serve.Goals as goal

pub returns-clause-answered : goal.returns-clause-answered
returns-clause-answered g c =
    still_answered (g.T.LineTable.IsReplyTo c.args.table.now) (g.T.LineTable.Finds c.args.table.now) g.T.LineTable.AsksForNothing c.args.rules
    (reader_remaining g.R.Read.remaining c.args.input.now) c.in_ok-worst.worst
    (writer_contents g.W.Write.contents c.args.output.now) (writer_contents g.W.Write.contents c.answer_lines.new.output)
    (writer_contents g.W.Write.contents c.flush.new.self)
    (writer_contents g.E.Write.contents c.args.errors.now) (writer_contents g.E.Write.contents c.answer_lines.new.errors)
    (writer_contents g.E.Write.contents c.flush-2.new.self)
    c.in_ok-worst.ensures c.flush.ensures.bytes c.flush-2.ensures.bytes
