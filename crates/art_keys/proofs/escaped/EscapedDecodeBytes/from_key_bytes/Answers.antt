use Rattle.std.proofs.Common.{ap, subst, sym, ◌∙◌}
use Rattle.art_keys.specs.Escapes.{IsEscape, escape}
use Rattle.art_keys.specs.EscapeLaws.{unescape-escape}
use Rattle.art_keys.proofs.escaped.EscapedDecodeBytes.from_key_bytes.Goals as goal

pub invariant_of-result : goal.invariant_of-result
invariant_of-result c =
    subst IsEscape (sym (c.in_ok-from_slice.ensures.bytes ∙ c.requires.is)) (ap escape (unescape-escape c.requires.key))
