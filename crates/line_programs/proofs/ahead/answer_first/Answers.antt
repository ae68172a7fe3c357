use Rattle.line_programs.proofs.AheadLemmas.{none_ahead}
use Rattle.line_programs.proofs.ahead.answer_first.Goals as goal

pub returns-in-Plain-2-clause-answered : goal.returns-in-Plain-2-clause-answered
returns-in-Plain-2-clause-answered g c =
    none_ahead (g.T.LineTable.IsReplyTo c.args.table.now) (g.T.LineTable.Finds c.args.table.now) g.T.LineTable.AsksForNothing c.args.format
    c.args.text.now c.args.number c.none_answered.result.used c.none_answered.result.next c.none_answered.result.worst
    (g.W.Write.contents c.args.output.now) c.none_answered.ensures.used c.none_answered.ensures.next c.none_answered.ensures.worst
