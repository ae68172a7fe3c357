use Rattle.std.proofs.Common.{ap, sym, ◌∙◌}
use Rattle.art_model.specs.Prelude.{without_last}
use Rattle.art_model.proofs.keys.Texts.{ended_text}
use Rattle.art_ranges.proofs.texts.text_of.Goals as goal

pub returns-in-Some : goal.returns-in-Some
returns-in-Some c = sym (ap without_last c.in-Some.ensures.cases.0 ∙ ended_text c.in-Some.text.now c.in-Some.field-0-0.now)
