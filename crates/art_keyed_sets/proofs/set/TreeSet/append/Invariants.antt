use Rattle.std.proofs.Common.{◌≡◌, ◌++◌, List, length}
use Rattle.art_sets.specs.SetKeys.{add_all}
use Rattle.art_keyed_sets.proofs.set.TreeSet.append.Given as goal

abbrev pub invariant-loop-key : goal.invariant-loop-key
invariant-loop-key g l = (ks : List g.row.K.Denot) × (l.initial.other ≡ ks ++ l.other) × (l.self ≡ add_all g.K.AsBytes.bytes ks l.initial.self)

abbrev pub decreases-loop-key : goal.decreases-loop-key
decreases-loop-key g l = length l.other
