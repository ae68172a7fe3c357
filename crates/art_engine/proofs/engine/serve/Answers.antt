use Rattle.std.specs.Io.Buffered.{reader_remaining, writer_contents}
use Rattle.art_engine.proofs.Serving.{ended, refused, served}
use Rattle.art_engine.proofs.engine.serve.Goals as goal

pub returns-clause-served : goal.returns-clause-served
returns-clause-served g c =
    served c.new-tree.result c.answer_lines.new.tree (writer_contents g.W.Write.contents c.args.output.now)
    (writer_contents g.W.Write.contents c.answer_lines.new.output) (reader_remaining g.R.Read.remaining c.args.input.now) c.in_ok-why.why
    (writer_contents g.W.Write.contents c.flush.new.self) c.in_ok-why.ensures.served c.flush.ensures.bytes c.new-tree.ensures.root

pub returns-clause-ended : goal.returns-clause-ended
returns-clause-ended g c =
    ended c.new-tree.result c.answer_lines.new.tree (writer_contents g.W.Write.contents c.args.output.now)
    (writer_contents g.W.Write.contents c.answer_lines.new.output) (reader_remaining g.R.Read.remaining c.args.input.now) c.in_ok-why.why
    c.in_ok-why.ensures.served

pub returns-clause-refused : goal.returns-clause-refused
returns-clause-refused g c =
    refused c.new-tree.result c.answer_lines.new.tree (writer_contents g.W.Write.contents c.args.output.now)
    (writer_contents g.W.Write.contents c.answer_lines.new.output) (reader_remaining g.R.Read.remaining c.args.input.now) c.in_ok-why.why
    c.in_ok-why.ensures.served
