use Rattle.std.proofs.Common.{◌≡◌, ◌≤◌, ◌+◌, ◌++◌, length}
use Rattle.std.specs.Vec.{vec_capacity}
use Rattle.art_engine.specs.NodeWalks.{reversed_children}
use Rattle.art_engine.proofs.keeping.walk.push_children.Given as goal

-- what was pushed and the remaining children are all, and there is room for these
abbrev pub invariant-loop-byte : goal.invariant-loop-byte
invariant-loop-byte l =
    (l.pending.items ++ reversed_children l.fn.depth l.byte-iterator.iter ≡ l.fn.pending.items ++ reversed_children l.fn.depth l.fn.children)
    × (length l.pending.items + length l.byte-iterator.iter ≤ vec_capacity l.pending)
    × (vec_capacity l.pending ≡ vec_capacity l.fn.pending)
