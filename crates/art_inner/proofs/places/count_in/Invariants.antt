use Rattle.std.proofs.Common.{◌≡◌, ◌≤◌, ◌-◌, length, min}
use Rattle.art_inner.specs.Inner.{part_of}
use Rattle.art_inner.proofs.places.count_in.Given as goal

abbrev pub invariant-loop-byte : goal.invariant-loop-byte
invariant-loop-byte g l = (l.count ≡ length (part_of l.from (min l.byte l.to) (g.T.Places.children_of l.table))) × (l.count ≤ l.byte - l.from)
