use Rattle.std.proofs.Common.{◌++◌, ◌∙◌, ap, codes, sym}
use Rattle.art_engine.proofs.Requests.{no_insert, no_prefix, no_delete, no_longest, no_find, no_request}
use Rattle.art_engine.proofs.lines.Request.parse.Goals as goal

pub returns-in_err-key-clause-none : goal.returns-in_err-key-clause-none
returns-in_err-key-clause-none c =
    rw c.from_residual.ensures (no_insert c.args.line.now c.in-Some-strip.arguments.now c.in-Some-strip.ensures.rest
    c.in_err-key.ensures.none)

pub returns-in_err-key-2-clause-none : goal.returns-in_err-key-2-clause-none
returns-in_err-key-2-clause-none c = rw c.from_residual-in_err-key-2.ensures
    (no_prefix c.args.line.now c.in-Some-strip-2.arguments.now c.in-Some-strip-2.ensures.rest c.in_err-key-2.ensures.none)

pub returns-in_err-parse-clause-none : goal.returns-in_err-parse-clause-none
returns-in_err-parse-clause-none c =
    rw c.from_residual-in_err-parse.ensures (no_delete c.args.line.now c.in-Some-strip-3.key.now c.in-Some-strip-3.ensures.rest
    c.in_err-parse.ensures.none)

pub returns-in-Some-strip-3-clause-line : goal.returns-in-Some-strip-3-clause-line
returns-in-Some-strip-3-clause-line c = c.in-Some-strip-3.ensures.rest ∙ ap (λ word. codes "delete " ++ word) (sym c.in_ok-parse.ensures.word)

pub returns-in_err-parse-2-clause-none : goal.returns-in_err-parse-2-clause-none
returns-in_err-parse-2-clause-none c = rw c.from_residual-in_err-parse-2.ensures
    (no_longest c.args.line.now c.in-Some-strip-4.key.now c.in-Some-strip-4.ensures.rest c.in_err-parse-2.ensures.none)

pub returns-in_err-key-3-clause-none : goal.returns-in_err-key-3-clause-none
returns-in_err-key-3-clause-none c =
    rw c.from_residual-in_err-key-3.ensures (no_request c.args.line.now c.in_default.ensures.none c.in_default-strip.ensures.none
    c.in_default-strip-2.ensures.none
    c.in_default-strip-3.ensures.none c.in_default-strip-4.ensures.none c.in_err-key-3.ensures.none)

pub returns-in_err-parse-3-clause-none : goal.returns-in_err-parse-3-clause-none
returns-in_err-parse-3-clause-none c =
    rw c.from_residual-in_err-parse-3.ensures
    (no_find c.args.line.now c.in_ok-key-3.key.now c.in_ok-key-3.ensures.rest c.in_err-parse-3.ensures.none)

pub returns-clause-line : goal.returns-clause-line
returns-clause-line c = c.in_ok-key-3.ensures.rest ∙ ap (λ word. codes "find " ++ word) (sym c.in_ok-parse-3.ensures.word)
