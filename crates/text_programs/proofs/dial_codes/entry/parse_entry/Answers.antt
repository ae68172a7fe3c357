use Rattle.std.proofs.Common.{sym, ◌∙◌, subst}
use Rattle.text_lines.proofs.Spaces.{HasNoSpace, has_space}
use Rattle.text_programs.proofs.CodeEntries.{no_entry}
use Rattle.text_programs.proofs.dial_codes.entry.parse_entry.Goals as goal

pub returns-in_err-code-clause-none : goal.returns-in_err-code-clause-none
returns-in_err-code-clause-none c = rw c.from_residual.ensures (λ code name is same. has_space code name (subst HasNoSpace same c.in_err-code.ensures.none))

pub returns-else-is_code-clause-none : goal.returns-else-is_code-clause-none
returns-else-is_code-clause-none c code name h e =
    no_entry c.args.line.now c.in_ok-code.code.now c.in_ok-code.name.now code name c.in_ok-code.ensures.parts c.in_ok-code.ensures.word
    (sym c.is_code.ensures ∙ c.if-is_code.false) h e
