use Rattle.std.proofs.Common.{◌+◌, suc, take, drop, map, ap, sym, subst}
use Rattle.text_lines.proofs.Writing.{keeps_itself}
use Rattle.line_programs.specs.Served.{AreAnswered}
use Rattle.line_programs.proofs.ServeLemmas.{AreAnsweredSoFar, none_so_far, one_more, the_last, words_around, words_before, words_to}
use Rattle.line_programs.proofs.serving.answer_words.Goals as goal

pub loop-index-init : goal.loop-index-init
loop-index-init g c =
    none_so_far (g.T.LineTable.IsReplyTo c.args.table.now) (g.T.LineTable.Finds c.args.table.now) g.T.LineTable.AsksForNothing c.args.rules
    (g.W.Write.contents c.args.output.now) (g.E.Write.contents c.args.errors.now)

pub returns-then-end_at : goal.returns-then-end_at
returns-then-end_at g c =
    let ls = map (λ word. word.now) c.args.words.now in
    subst (λ ls. AreAnswered (g.T.LineTable.IsReplyTo c.args.table.now) (g.T.LineTable.Finds c.args.table.now) g.T.LineTable.AsksForNothing c.args.rules ls
    c.worse-worst.result (g.W.Write.contents c.args.output.now) (g.W.Write.contents c.answer_line.new.output)
    (g.E.Write.contents c.args.errors.now) (g.E.Write.contents c.answer_line.new.errors))
    (sym (words_around c.args.words.now c.loop-index.index _ c.loop-index-test.true))
    (the_last (g.T.LineTable.IsReplyTo c.args.table.now) (g.T.LineTable.Finds c.args.table.now) g.T.LineTable.AsksForNothing c.args.rules
    c.loop-index.worst (g.W.Write.contents c.args.output.now) (g.W.Write.contents c.loop-index.output)
    (g.E.Write.contents c.args.errors.now) (g.E.Write.contents c.loop-index.errors) (take c.loop-index.index ls) c.loop-index.invariant
    (c.loop-index.index + 1) (ap (λ n. n + 1) (sym (words_before c.args.words.now c.loop-index.index c.loop-index-test.true)))
    _ c.as_bytes.result.now c.as_bytes.ensures.value c.in_ok-outcome.outcome
    (g.W.Write.contents c.answer_line.new.output) (g.E.Write.contents c.answer_line.new.errors) c.in_ok-outcome.ensures
    c.worse-worst.result (drop (suc c.loop-index.index) ls) c.worse-worst.ensures
    (c.end_at.ensures.strict c.if-end_at.true) (c.end_at.ensures.invalid c.if-end_at.true))

pub loop-index-preserved : goal.loop-index-preserved
loop-index-preserved g c =
    let ls = map (λ word. word.now) c.args.words.now in
    subst (AreAnsweredSoFar (g.T.LineTable.IsReplyTo c.args.table.now) (g.T.LineTable.Finds c.args.table.now) g.T.LineTable.AsksForNothing c.args.rules
    c.worse-worst.result (g.W.Write.contents c.args.output.now) (g.W.Write.contents c.answer_line.new.output)
    (g.E.Write.contents c.args.errors.now) (g.E.Write.contents c.answer_line.new.errors))
    (sym (words_to c.args.words.now c.loop-index.index _ c.loop-index-test.true))
    (one_more (g.T.LineTable.IsReplyTo c.args.table.now) (g.T.LineTable.Finds c.args.table.now) g.T.LineTable.AsksForNothing c.args.rules
    c.loop-index.worst (g.W.Write.contents c.args.output.now) (g.W.Write.contents c.loop-index.output)
    (g.E.Write.contents c.args.errors.now) (g.E.Write.contents c.loop-index.errors) (take c.loop-index.index ls) c.loop-index.invariant
    (c.loop-index.index + 1) (ap (λ n. n + 1) (sym (words_before c.args.words.now c.loop-index.index c.loop-index-test.true)))
    _ c.as_bytes.result.now c.as_bytes.ensures.value c.in_ok-outcome.outcome
    (g.W.Write.contents c.answer_line.new.output) (g.E.Write.contents c.answer_line.new.errors) c.in_ok-outcome.ensures
    c.worse-worst.result (g.W.Write.contents c.answer_line.new.output) c.worse-worst.ensures (keeps_itself (g.W.Write.contents c.answer_line.new.output))
    (c.end_at.ensures.goes_on c.if-end_at.false))
