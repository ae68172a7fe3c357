use Rattle.std.proofs.Common.{true, false}
use Rattle.std.specs.Io.Buffered.{reader_remaining}
use Rattle.text_lines.proofs.LineParts.{read_as}
use Rattle.text_lines.proofs.Reading.{begins, ends, goes_on, stops}
use Rattle.text_lines.proofs.Writing.{keeps_itself}
use Rattle.line_programs.specs.Served.{AreAnswered}
use Rattle.line_programs.proofs.AheadLemmas.{goes_ahead}
use Rattle.line_programs.proofs.ServeLemmas.{AreAnsweredSoFar, all_answered, none_so_far, one_more, the_last}
use Rattle.line_programs.proofs.serving.answer_lines.Goals as goal

pub loop-number-init : goal.loop-number-init
loop-number-init g c =
    let IsReply = g.T.LineTable.IsReplyTo c.args.table.now in
    let Finds = g.T.LineTable.Finds c.args.table.now in
    let AsksForNothing = g.T.LineTable.AsksForNothing in
    let old = g.W.Write.contents c.args.output.now in
    let old_errors = g.E.Write.contents c.args.errors.now in
    let text = reader_remaining g.R.Read.remaining c.args.input.now in
    begins (AreAnsweredSoFar IsReply Finds AsksForNothing c.args.rules
    _ old old old_errors old_errors)
    text
    (none_so_far IsReply Finds AsksForNothing c.args.rules old old_errors)

pub loop-number-preserved : goal.loop-number-preserved
loop-number-preserved g c =
    let IsReply = g.T.LineTable.IsReplyTo c.args.table.now in
    let Finds = g.T.LineTable.Finds c.args.table.now in
    let AsksForNothing = g.T.LineTable.AsksForNothing in
    let old = g.W.Write.contents c.args.output.now in
    let ahead = g.W.Write.contents c.answer_collected.new.output in
    let new = g.W.Write.contents c.answer_line.new.output in
    let old_errors = g.E.Write.contents c.args.errors.now in
    let errors = g.E.Write.contents c.loop-number.errors in
    let new_errors = g.E.Write.contents c.answer_line.new.errors in
    let text = reader_remaining g.R.Read.remaining c.args.input.now in
    let left = reader_remaining g.R.Read.remaining c.answer_collected.new.input in
    let rest = reader_remaining g.R.Read.remaining c.next_line.new.input in
    goes_on (AreAnsweredSoFar IsReply Finds AsksForNothing c.args.rules
    c.worse-worst.result old ahead old_errors errors)
    (AreAnsweredSoFar IsReply Finds AsksForNothing c.args.rules
    c.worse-worst-in-loop-number.result old new old_errors new_errors)
    text left rest
    c.in_ok-ahead.ahead.next c.next_line.new.line.items
    (goes_ahead IsReply Finds AsksForNothing c.args.rules
    text (reader_remaining g.R.Read.remaining c.loop-number.input) left
    c.loop-number.number c.in_ok-ahead.ahead.next c.loop-number.worst c.in_ok-ahead.ahead.worst c.worse-worst.result
    old (g.W.Write.contents c.loop-number.output) ahead
    old_errors errors
    c.loop-number.invariant c.in_ok-ahead.ensures.answered c.worse-worst.ensures)
    (read_as _ _ _ c.in-Ok-true.field-0 true c.in-Ok-true.field-0-test c.in-Ok-true.ensures)
    (λ before n h. one_more IsReply Finds AsksForNothing c.args.rules
    c.worse-worst.result old ahead
    old_errors errors before h
    c.in_ok-ahead.ahead.next n c.next_line.new.line.items c.deref.result.now c.deref.ensures.value c.in_ok-outcome.outcome
    new new_errors c.in_ok-outcome.ensures
    c.worse-worst-in-loop-number.result new c.worse-worst-in-loop-number.ensures
    (keeps_itself new) (c.end_at.ensures.goes_on c.if-end_at.false))

pub returns-in-Ok-false : goal.returns-in-Ok-false
returns-in-Ok-false g c =
    let IsReply = g.T.LineTable.IsReplyTo c.args.table.now in
    let Finds = g.T.LineTable.Finds c.args.table.now in
    let AsksForNothing = g.T.LineTable.AsksForNothing in
    let old = g.W.Write.contents c.args.output.now in
    let ahead = g.W.Write.contents c.answer_collected.new.output in
    let old_errors = g.E.Write.contents c.args.errors.now in
    let errors = g.E.Write.contents c.loop-number.errors in
    let text = reader_remaining g.R.Read.remaining c.args.input.now in
    let left = reader_remaining g.R.Read.remaining c.answer_collected.new.input in
    let rest = reader_remaining g.R.Read.remaining c.next_line.new.input in
    ends (AreAnsweredSoFar IsReply Finds AsksForNothing c.args.rules
    c.worse-worst.result old ahead old_errors errors)
    (λ ls. AreAnswered IsReply Finds AsksForNothing c.args.rules ls
    c.worse-worst.result old ahead old_errors errors)
    text left rest
    c.in_ok-ahead.ahead.next c.next_line.new.line.items
    (goes_ahead IsReply Finds AsksForNothing c.args.rules
    text (reader_remaining g.R.Read.remaining c.loop-number.input) left
    c.loop-number.number c.in_ok-ahead.ahead.next c.loop-number.worst c.in_ok-ahead.ahead.worst c.worse-worst.result
    old (g.W.Write.contents c.loop-number.output) ahead
    old_errors errors
    c.loop-number.invariant c.in_ok-ahead.ensures.answered c.worse-worst.ensures)
    (read_as _ _ _ c.in-Ok-false.field-0 false c.in-Ok-false.field-0-test c.in-Ok-false.ensures)
    (all_answered IsReply Finds AsksForNothing c.args.rules
    c.worse-worst.result old ahead old_errors errors)

pub returns-then-end_at : goal.returns-then-end_at
returns-then-end_at g c =
    let IsReply = g.T.LineTable.IsReplyTo c.args.table.now in
    let Finds = g.T.LineTable.Finds c.args.table.now in
    let AsksForNothing = g.T.LineTable.AsksForNothing in
    let old = g.W.Write.contents c.args.output.now in
    let ahead = g.W.Write.contents c.answer_collected.new.output in
    let new = g.W.Write.contents c.answer_line.new.output in
    let old_errors = g.E.Write.contents c.args.errors.now in
    let errors = g.E.Write.contents c.loop-number.errors in
    let new_errors = g.E.Write.contents c.answer_line.new.errors in
    let text = reader_remaining g.R.Read.remaining c.args.input.now in
    let left = reader_remaining g.R.Read.remaining c.answer_collected.new.input in
    let rest = reader_remaining g.R.Read.remaining c.next_line.new.input in
    stops (AreAnsweredSoFar IsReply Finds AsksForNothing c.args.rules
    c.worse-worst.result old ahead old_errors errors)
    (λ ls. AreAnswered IsReply Finds AsksForNothing c.args.rules ls
    c.worse-worst-in-loop-number.result old new old_errors new_errors)
    text left rest
    c.in_ok-ahead.ahead.next c.next_line.new.line.items
    (goes_ahead IsReply Finds AsksForNothing c.args.rules
    text (reader_remaining g.R.Read.remaining c.loop-number.input) left
    c.loop-number.number c.in_ok-ahead.ahead.next c.loop-number.worst c.in_ok-ahead.ahead.worst c.worse-worst.result
    old (g.W.Write.contents c.loop-number.output) ahead
    old_errors errors
    c.loop-number.invariant c.in_ok-ahead.ensures.answered c.worse-worst.ensures)
    (read_as _ _ _ c.in-Ok-true.field-0 true c.in-Ok-true.field-0-test c.in-Ok-true.ensures)
    (λ before after n h. the_last IsReply Finds AsksForNothing c.args.rules
    c.worse-worst.result old ahead
    old_errors errors before h
    c.in_ok-ahead.ahead.next n c.next_line.new.line.items c.deref.result.now c.deref.ensures.value c.in_ok-outcome.outcome
    new new_errors c.in_ok-outcome.ensures
    c.worse-worst-in-loop-number.result after c.worse-worst-in-loop-number.ensures
    (c.end_at.ensures.strict c.if-end_at.true) (c.end_at.ensures.invalid c.if-end_at.true))
