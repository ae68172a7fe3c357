use Rattle.std.proofs.Common.{◌≡◌, ℕ}
use Rattle.std.specs.Vec.{vec_capacity}
use Rattle.art_engine.specs.NodeWalks.{left_after}
use Rattle.art_engine.proofs.Walks.{HasRoomTo}
use Rattle.art_engine.proofs.keeping.walk.reserve_walk.Given as goal

-- what is left after so many steps, for which there was room
abbrev pub invariant-loop : goal.invariant-loop
invariant-loop g l =
    (turns : ℕ) × (l.pending.items ≡ left_after l.store l.fn.root turns) × HasRoomTo l.store l.fn.root turns (vec_capacity l.pending)
