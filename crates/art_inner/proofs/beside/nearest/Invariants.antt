use Rattle.std.proofs.Common.{◌≡◌, ◌≢◌, ℕ, ◌+◌, ◌<◌, None}
use Rattle.art_inner.specs.Inner.{child_at}
use Rattle.art_inner.proofs.beside.nearest.Given as goal

abbrev pub invariant-loop-distance : goal.invariant-loop-distance
invariant-loop-distance g l =
    (k : ℕ) → k < 256 → k ≢ l.byte → l.byte < k + l.distance → k < l.byte + l.distance → child_at (g.T.Places.children_of l.table) k ≡ None
