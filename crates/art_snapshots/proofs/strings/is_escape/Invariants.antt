use Rattle.std.proofs.Common.{◌↔◌, length}
use Rattle.art_keys.specs.Escapes.{IsEscape}
use Rattle.art_snapshots.proofs.strings.is_escape.Given as goal

-- the bytes that are left are an escaped string exactly if all are
abbrev pub invariant-loop-others : goal.invariant-loop-others
invariant-loop-others l = IsEscape l.rest ↔ IsEscape l.bytes

abbrev pub decreases-loop-others : goal.decreases-loop-others
decreases-loop-others l = length l.rest
