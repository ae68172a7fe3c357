use Rattle.std.proofs.Common.{◌≡◌, length}
use Rattle.art_sets.specs.SetAlgebra.{selected}
use Rattle.art_sets.proofs.set.algebra.next_selected.Given as goal

abbrev pub invariant-loop-key : goal.invariant-loop-key
invariant-loop-key g l =
    selected (g.O.HasKey.has l.fn.other) l.fn.wanted l.initial.keys ≡ selected (g.O.HasKey.has l.fn.other) l.fn.wanted l.keys

abbrev pub decreases-loop-key : goal.decreases-loop-key
decreases-loop-key g l = length l.keys
