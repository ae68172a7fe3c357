use Rattle.std.proofs.Common.{◌≡◌, ◌++◌, List, length}
use Rattle.art_map.specs.MapCalls.{put_all}
use Rattle.art_keyed.proofs.map.TreeMap.append.Given as goal

abbrev pub invariant-loop-key : goal.invariant-loop-key
invariant-loop-key g l =
    (xs : List (g.row.K.Denot × g.row.V.Denot)) × (l.initial.other ≡ xs ++ l.other) × (l.self ≡ put_all g.K.AsBytes.bytes xs l.initial.self)

abbrev pub decreases-loop-key : goal.decreases-loop-key
decreases-loop-key g l = length l.other
