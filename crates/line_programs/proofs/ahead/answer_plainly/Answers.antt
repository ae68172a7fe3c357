use Rattle.std.proofs.Common.{◌+◌, ◌++◌, Some, sym, subst}
use Rattle.std.specs.Io.KnownBytes.{Appends}
use Rattle.line_programs.specs.declared.serving.Format.TheVariants.{Plain}
use Rattle.text_lines.specs.Lines.{lines}
use Rattle.line_programs.specs.LineTables.{AreLookedUp}
use Rattle.line_programs.specs.Served.{AreFirstAnswered}
use Rattle.line_programs.proofs.AheadLemmas.{gathered_first, left_of, none_ahead}
use Rattle.line_programs.proofs.ahead.answer_plainly.Goals as goal

pub returns-in_default-clause-answered : goal.returns-in_default-clause-answered
returns-in_default-clause-answered g c =
    none_ahead (g.T.LineTable.IsReplyTo c.args.table.now) (g.T.LineTable.Finds c.args.table.now) g.T.LineTable.AsksForNothing Plain c.args.text.now
    c.args.number c.none_answered.result.used c.none_answered.result.next c.none_answered.result.worst (g.W.Write.contents c.args.output.now)
    c.none_answered.ensures.used c.none_answered.ensures.next c.none_answered.ensures.worst

pub returns-in_default-after_lines-clause-answered : goal.returns-in_default-after_lines-clause-answered
returns-in_default-after_lines-clause-answered g c =
    let none = c.none_answered-in_default-after_lines in
    none_ahead (g.T.LineTable.IsReplyTo c.args.table.now) (g.T.LineTable.Finds c.args.table.now) g.T.LineTable.AsksForNothing Plain c.args.text.now
    c.args.number none.result.used none.result.next none.result.worst (g.W.Write.contents c.args.output.now)
    none.ensures.used none.ensures.next none.ensures.worst

pub returns-clause-answered : goal.returns-clause-answered
returns-clause-answered g c = λ more.
    let text = c.args.text.now in
    let left = c.in-Some-after_lines.left.now in
    let gathered = c.in-Some.gathered in
    let (others, first) = c.in-Some.ensures.gathered in
    let old = g.W.Write.contents c.args.output.now in
    let new = g.W.Write.contents c.write_all.new.self in
    subst
    (λ bs. AreFirstAnswered (g.T.LineTable.IsReplyTo c.args.table.now) (g.T.LineTable.Finds c.args.table.now) g.T.LineTable.AsksForNothing Plain
    (text ++ more) (Some (bs ++ more)) c.args.number (c.args.number + gathered.count) gathered.worst old new)
    (sym (left_of text left c.in-Some-after_lines.ensures.ends))
    (gathered_first (g.T.LineTable.IsReplyTo c.args.table.now) (g.T.LineTable.Finds c.args.table.now) g.T.LineTable.AsksForNothing
    c.deref.result.now others gathered.count c.args.number gathered.worst c.gather.new.buffer.items (text ++ more) (left ++ more) old new
    (subst (λ replies. AreLookedUp (g.T.LineTable.IsReplyTo c.args.table.now) (g.T.LineTable.Finds c.args.table.now) replies (lines (text ++ more)))
    (sym c.deref.ensures.value) (c.look_up-replies.ensures more))
    first (c.in-Some-after_lines.ensures.lines more)
    (subst (Appends old new) c.deref-2.ensures.value c.in_ok-write_all.ensures.bytes))
