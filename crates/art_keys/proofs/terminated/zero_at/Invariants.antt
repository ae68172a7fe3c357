use Rattle.std.proofs.Common.{◌≡◌, ◌+◌, length}
use Rattle.art_keys.specs.Ended.{zero_at}
use Rattle.art_keys.proofs.terminated.zero_at.Given as goal

-- what is counted and what is to come make up the number of bytes before the first zero, and the number of all bytes
abbrev pub invariant-loop-rest : goal.invariant-loop-rest
invariant-loop-rest l = (l.count + zero_at l.rest ≡ zero_at l.bytes) × (l.count + length l.rest ≡ length l.bytes)

abbrev pub decreases-loop-rest : goal.decreases-loop-rest
decreases-loop-rest l = length l.rest
