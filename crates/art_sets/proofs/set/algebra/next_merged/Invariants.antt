use Rattle.std.proofs.Common.{◌≡◌, length}
use Rattle.std.specs.Set.{sorted_merge}
use Rattle.art_sets.specs.SetAlgebra.{byte_order}
use Rattle.art_sets.proofs.set.algebra.next_merged.Given as goal

abbrev pub invariant-loop-x : goal.invariant-loop-x
invariant-loop-x g l =
    sorted_merge (byte_order g.K.AsBytes.bytes) l.fn.keeps_equal l.initial.left l.initial.right
    ≡ sorted_merge (byte_order g.K.AsBytes.bytes) l.fn.keeps_equal l.left l.right

abbrev pub decreases-loop-x : goal.decreases-loop-x
decreases-loop-x g l = length l.left
