use Rattle.art_keyed_sets.proofs.KeptKeys.{key_first_keeps}
use Rattle.art_keyed_sets.proofs.set.TreeSet.pop_first.Goals as goal

pub invariant_of-self : goal.invariant_of-self
invariant_of-self g c = rw c.pop_first.ensures.keys (key_first_keeps _ g.K.AsBytes.bytes c.self.inside.set c.self.invariant)
