use Rattle.std.proofs.Common.{◌≡◌, ℕ, ◌+◌, ◌-◌, length}
use Rattle.art_checking.specs.Meetings.{number_at}
use Rattle.art_checking.proofs.well_formed.seen.set_in.Given as goal

abbrev pub invariant-longer : goal.invariant-longer
invariant-longer l = (i : ℕ) → number_at l.row.items i ≡ number_at l.fn.row.items i

abbrev pub decreases-longer : goal.decreases-longer
decreases-longer l = l.slot + 1 - length l.row.items
