use Rattle.std.proofs.Common.{◌≡◌}
use Rattle.std.proofs.iter.Next as it
use Rattle.std.specs.Iterator.{EndsFrom, items_left}
use Rattle.art_sets.specs.SetKeys.{add_all}
use Rattle.art_sets.proofs.set.ByteSet.extend.Given as goal

abbrev pub invariant-loop-key : goal.invariant-loop-key
invariant-loop-key g l =
    it.Ran g.I.Iterator.can_next (EndsFrom g.I.Iterator.remaining) (items_left g.I.Iterator.remaining) g.I.Iterator.next_gives
    (λ xs. l.self ≡ add_all g.K.AsBytes.bytes xs l.initial.self) l.initial.keys l.keys

abbrev pub decreases-loop-key : goal.decreases-loop-key
decreases-loop-key g l = items_left g.I.Iterator.remaining l.keys
