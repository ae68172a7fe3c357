use Rattle.std.proofs.Common.{◌≡◌, ◌+◌, ◌≤◌, length}
use Rattle.art_keys.specs.Escapes.{unescape}
use Rattle.art_keys.proofs.escaped.Escaped.text_len.Given as goal

-- what is counted and what is to come make up the length, and at most as many are counted as bytes were read
abbrev pub invariant-loop-others : goal.invariant-loop-others
invariant-loop-others l = (l.len + length (unescape l.rest) ≡ length l.self) × (l.len + length l.rest ≤ length l.initial.rest)

abbrev pub decreases-loop-others : goal.decreases-loop-others
decreases-loop-others l = length l.rest
