use Rattle.std.proofs.Common.{refl, sym}
use Rattle.std.proofs.lemmas.Bool.{false≢true}
use Rattle.text_lines.proofs.LineParts.{return_absent, return_trimmed}
use Rattle.text_lines.proofs.lines.trim_return.Goals as goal

pub returns-then-ends_with : goal.returns-then-ends_with
returns-then-ends_with c = return_trimmed c.args.line.now (c.if-ends_with.ensures.0 refl)

pub returns : goal.returns
returns c = sym (return_absent c.args.line.now (λ e. false≢true (c.if-ends_with.ensures.1 e)))
