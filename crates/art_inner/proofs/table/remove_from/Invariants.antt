use Rattle.std.proofs.Common.{◌≡◌, ◌-◌, ◌<◌, ◌≤◌, ◌++◌, length, take, drop, remove}
use Rattle.art_inner.proofs.table.remove_from.Given as goal

abbrev pub invariant-loop-place : goal.invariant-loop-place
invariant-loop-place g l =
    (l.at < l.place) × (l.place ≤ length l.fn.part) × (l.part ≡ take (l.place - 1) (remove l.fn.part l.at) ++ drop (l.place - 1) l.fn.part)

abbrev pub decreases-loop-place : goal.decreases-loop-place
decreases-loop-place g l = length l.fn.part - l.place
