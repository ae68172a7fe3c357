use Rattle.std.proofs.Common.{◌≡◌, ◌+◌, ◌*◌, ◌≤◌, drop, length}
use Rattle.art_keys.specs.Escapes.{escape}
use Rattle.art_keys.proofs.escaped.escape_len.Given as goal

-- what is counted and what is to come make up the length, and a byte counts as two at most
abbrev pub invariant-loop-byte : goal.invariant-loop-byte
invariant-loop-byte l =
    (l.len + length (escape (drop l.byte-index l.text)) ≡ length (escape l.text) + 1) × (l.len ≤ 2 * l.byte-index + 1)
