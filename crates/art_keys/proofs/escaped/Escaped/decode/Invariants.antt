use Rattle.std.proofs.Common.{◌≡◌, ◌++◌, length}
use Rattle.art_keys.specs.Escapes.{unescape}
use Rattle.art_keys.proofs.escaped.Escaped.decode.Given as goal

-- what is written and what is to come make up the string
abbrev pub invariant-loop-byte : goal.invariant-loop-byte
invariant-loop-byte l = l.text.items ++ unescape l.rest ≡ l.self

abbrev pub decreases-loop-byte : goal.decreases-loop-byte
decreases-loop-byte l = length l.rest
