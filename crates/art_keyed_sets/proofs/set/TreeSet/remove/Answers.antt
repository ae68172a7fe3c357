use Rattle.art_keyed_sets.proofs.KeptKeys.{key_remove_keeps}
use Rattle.art_keyed_sets.proofs.set.TreeSet.remove.Goals as goal

pub invariant_of-self : goal.invariant_of-self
invariant_of-self g c = rw c.remove.ensures.keys (key_remove_keeps _ g.K.AsBytes.bytes c.as_bytes.result.now c.self.inside.set c.self.invariant)
