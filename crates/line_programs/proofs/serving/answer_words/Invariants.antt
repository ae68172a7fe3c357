use Rattle.std.proofs.Common.{map, take}
use Rattle.line_programs.proofs.ServeLemmas.{AreAnsweredSoFar}
use Rattle.line_programs.proofs.serving.answer_words.Given as goal

-- the words before this one were answered
abbrev pub invariant-loop-index : goal.invariant-loop-index
invariant-loop-index g l =
    AreAnsweredSoFar (g.T.LineTable.IsReplyTo l.table) (g.T.LineTable.Finds l.table) g.T.LineTable.AsksForNothing l.fn.rules
    l.worst (g.W.Write.contents l.initial.output) (g.W.Write.contents l.output) (g.E.Write.contents l.initial.errors) (g.E.Write.contents l.errors)
    (take l.index (map (λ word. word.now) l.fn.words))
