use Rattle.std.proofs.Common.{[], ◌∷◌, ◌++◌, ap, sym, ◌∙◌, append_assoc}
use Rattle.text_lines.specs.Lines.{lines}
use Rattle.text_lines.proofs.LineParts.{first_ended, rest_is_shorter}
use Rattle.text_lines.proofs.lines.first_line.Goals as goal

pub returns-clause-line : goal.returns-clause-line
returns-clause-line c = λ more.
    first_ended c.args.text.now c.in_ok-line.line.now c.in_ok-line.rest.now more (c.in_ok-line.ensures.parts) (c.in_ok-line.ensures.first)
    ∙ ap (λ line. line ∷ lines (c.in_ok-line.rest.now ++ more)) (sym c.trim_return.ensures)

pub returns-clause-rest : goal.returns-clause-rest
returns-clause-rest c = (
  c.in_ok-line.line.now ++ 10 ∷ [],
  c.in_ok-line.ensures.parts ∙ sym (append_assoc c.in_ok-line.line.now (10 ∷ []) c.in_ok-line.rest.now),
)

pub returns-clause-shorter : goal.returns-clause-shorter
returns-clause-shorter c = rest_is_shorter c.args.text.now c.in_ok-line.line.now c.in_ok-line.rest.now (c.in_ok-line.ensures.parts)
