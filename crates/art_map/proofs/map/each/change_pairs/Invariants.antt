use Rattle.art_model.specs.Prelude.{CalledOnPair}
use Rattle.art_iterating.specs.MapItems.{pairs_between, walk_len}
use Rattle.art_changing.specs.MapPairs.{pairs_at}
use Rattle.art_map.proofs.Changed.{Changing}
use Rattle.art_map.proofs.map.each.change_pairs.Given as goal

abbrev pub invariant-loop-leaf : goal.invariant-loop-leaf
invariant-loop-leaf g l =
    Changing g.K.AsBytes.bytes g.row.P (λ f x next value. CalledOnPair g.F.FnMut f x tt next value) l.fn.root l.fn.len l.fn.f
    (pairs_between l.fn.store l.fn.walk l.fn.len)
    (pairs_at l.fn.store l.fn.root) l.f l.store l.walk
    × goal.F-IsAlwaysCallable g l.f

abbrev pub decreases-loop-leaf : goal.decreases-loop-leaf
decreases-loop-leaf g l = walk_len l.store l.walk l.fn.len
