use Rattle.std.proofs.Common.{codes}
use Rattle.text_programs.proofs.RequestLines.{no_between, words_plain}
use Rattle.text_programs.proofs.path_indexes.request.Request.parse.Goals as goal

pub returns-in_err-from-clause-none : goal.returns-in_err-from-clause-none
returns-in_err-from-clause-none c =
    rw c.from_residual-in_err-from.ensures (no_between c.args.line.now c.in_ok-ends.ends.now c.in_ok-ends.ensures.rest c.in_err-from.ensures.none)

pub returns-clause-is : goal.returns-clause-is
returns-clause-is c =
    let plain = words_plain c.args.line.now (codes "between ") c.in_ok-ends.ends.now c.in_ok-from.from.now c.in_ok-from.to.now c.in_ok-ends.ensures.rest
    c.in_ok-from.ensures.parts c.if-has_zero.ensures.none in (c.in_ok-from.ensures.word, plain.0, plain.1)
