use Rattle.std.proofs.Common.{sym, subst, ◌∙◌}
use Rattle.std.specs.Fmt.{decimal}
use Rattle.art_engine.specs.KeyTexts.{IsKeyWord}
use Rattle.text_lines.proofs.Spaces.{HasNoSpace, has_space, same_words}
use Rattle.art_engine.proofs.KeyWords.{key_spaceless}
use Rattle.art_engine.proofs.lines.parse_pair.Goals as goal

pub returns-in_err-key-clause-none : goal.returns-in_err-key-clause-none
returns-in_err-key-clause-none c =
    rw c.from_residual.ensures (λ key value is small same. has_space key (decimal value) (subst HasNoSpace same c.in_err-key.ensures.none))

pub returns-in_err-parse-clause-none : goal.returns-in_err-parse-clause-none
returns-in_err-parse-clause-none c =
    rw c.from_residual-in_err-parse.ensures (λ key value is small same.
    let both = same_words c.in_ok-key.key.now c.in_ok-key.value.now key (decimal value) c.in_ok-key.ensures.word (key_spaceless key is)
    (sym c.in_ok-key.ensures.parts ∙ same) in
    c.in_err-parse.ensures.none (subst IsKeyWord (sym both.0) is))

pub returns-in_err-parse_number-clause-none : goal.returns-in_err-parse_number-clause-none
returns-in_err-parse_number-clause-none c =
    rw c.from_residual-in_err-parse_number.ensures (λ key value is small same.
    let both = same_words c.in_ok-key.key.now c.in_ok-key.value.now key (decimal value) c.in_ok-key.ensures.word (key_spaceless key is)
    (sym c.in_ok-key.ensures.parts ∙ same) in
    c.in_err-parse_number.ensures.none value small both.1)
