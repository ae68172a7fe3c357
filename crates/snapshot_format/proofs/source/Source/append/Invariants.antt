use Rattle.std.proofs.Common.{◌-◌, ◌≤◌}
use Rattle.snapshot_format.specs.Reading.{Appended}
use Rattle.snapshot_format.proofs.source.Source.append.Given as goal

-- the bytes so far were read and appended
abbrev pub invariant-loop-left : goal.invariant-loop-left
invariant-loop-left g l = (l.left ≤ l.len) × Appended g.R.Read.remaining l.fn.self l.self l.fn.into.items l.into.items (l.len - l.left)

abbrev pub decreases-loop-left : goal.decreases-loop-left
decreases-loop-left g l = l.left
