use Rattle.std.proofs.Common.{◌∙◌}
use Rattle.line_programs.proofs.JsonLemmas.{utf8_is}
use Rattle.line_programs.proofs.json.is_utf8.Goals as goal

pub returns : goal.returns
returns c = c.is_ok.ensures.value ∙ utf8_is c.args.bytes.now c.from_utf8.result c.from_utf8.ensures.cases (λ s h. h.1) (λ e h. h.0)
