-- Bytes that are those of an escaped string.
use Rattle.std.proofs.Common.{◌≡◌, ℕ, List, ap, sym, ◌∙◌}
use Rattle.art_keys.specs.EscapeLaws.{unescape-escape}
use Rattle.art_keys.specs.Escapes.{IsEscape, escape, unescape}

pub is_escaped : (text bytes : List ℕ) → escape text ≡ bytes → IsEscape bytes
is_escaped text bytes is = ap escape (ap unescape (sym is) ∙ unescape-escape text) ∙ is
