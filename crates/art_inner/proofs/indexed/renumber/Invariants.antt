use Rattle.std.proofs.Common.{◌≡◌, ℕ, ◌<◌, ◌≤◌, get_or}
use Rattle.art_inner.specs.Indexed.{number_after_move}
use Rattle.art_inner.proofs.indexed.renumber.Given as goal

abbrev pub invariant-loop-number : goal.invariant-loop-number
invariant-loop-number l = ((k : ℕ) → k < l.number-index → get_or l.index k 0 ≡ number_after_move l.last l.to (get_or l.fn.index k 0))
    × ((k : ℕ) → l.number-index ≤ k → get_or l.index k 0 ≡ get_or l.fn.index k 0)
