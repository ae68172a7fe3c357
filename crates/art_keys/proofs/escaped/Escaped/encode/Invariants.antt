use Rattle.std.proofs.Common.{◌≡◌, ◌++◌, drop}
use Rattle.art_keys.specs.Escapes.{escape}
use Rattle.art_keys.proofs.escaped.Escaped.encode.Given as goal

-- what is written and the escape of the rest make up the escape
abbrev pub invariant-loop-byte : goal.invariant-loop-byte
invariant-loop-byte l = l.bytes ++ escape (drop l.byte-index l.text) ≡ escape l.text
