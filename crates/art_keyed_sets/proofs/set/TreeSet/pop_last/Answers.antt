use Rattle.art_keyed_sets.proofs.KeptKeys.{key_last_keeps}
use Rattle.art_keyed_sets.proofs.set.TreeSet.pop_last.Goals as goal

pub invariant_of-self : goal.invariant_of-self
invariant_of-self g c = rw c.pop_last.ensures.keys (key_last_keeps _ g.K.AsBytes.bytes c.self.inside.set c.self.invariant)
