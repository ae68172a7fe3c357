use Rattle.std.proofs.Common.{◌≡◌, ◌+◌, ◌-◌, ◌≤◌, drop, length}
use Rattle.snapshot_format.specs.Snapshots.{shared_len}
use Rattle.snapshot_format.proofs.writing.shared_len.Given as goal

-- the bytes so far are shared
abbrev pub invariant-loop-shared : goal.invariant-loop-shared
invariant-loop-shared l = (l.shared + shared_len (drop l.shared l.key) (drop l.shared l.other) ≡ shared_len l.key l.other) × (l.shared ≤ length l.key) × (l.shared ≤ length l.other)

abbrev pub decreases-loop-shared : goal.decreases-loop-shared
decreases-loop-shared l = length l.key - l.shared
