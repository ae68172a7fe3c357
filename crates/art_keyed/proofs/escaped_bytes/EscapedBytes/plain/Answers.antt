use Rattle.std.proofs.Common.{ap, sym, ◌∙◌}
use Rattle.art_keys.specs.Escapes.{escape}
use Rattle.art_keys.specs.EscapeLaws.{escape-plain}
use Rattle.art_keyed.proofs.escaped_bytes.EscapedBytes.plain.Goals as goal

pub returns : goal.returns
returns c = sym (escape-plain c.self.inside.text.now (c.self.invariant.1 c.if-not-self.false)) ∙ ap escape c.self.view_is
