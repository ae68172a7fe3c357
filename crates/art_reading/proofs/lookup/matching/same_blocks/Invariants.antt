use Rattle.std.proofs.Common.{◌≡◌, ◌-◌, ◌≤◌, take}
use Rattle.art_reading.proofs.lookup.matching.same_blocks.Given as goal

abbrev pub invariant-loop-at : goal.invariant-loop-at
invariant-loop-at l = (l.at ≤ l.end) × (take l.at l.a ≡ take l.at l.b)

abbrev pub decreases-loop-at : goal.decreases-loop-at
decreases-loop-at l = l.end - l.at
