use Rattle.art_keyed_sets.proofs.KeptKeys.{keys_rise}
use Rattle.art_keyed_sets.proofs.set.TreeSet.rises.Goals as goal

pub returns : goal.returns
returns g c =
    rw (← c.self.view_is) (keys_rise _ g.K.AsBytes.bytes g.met.K.OrderedBytes.keeps_order c.self.inside.set c.self.invariant c.len.ensures.sorted)
