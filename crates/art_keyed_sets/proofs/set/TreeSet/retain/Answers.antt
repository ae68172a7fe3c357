use Rattle.std.specs.Fn.{CalledAt}
use Rattle.art_keyed.proofs.KeptByAll.{retains_keep}
use Rattle.art_keyed_sets.proofs.set.TreeSet.retain.Goals as goal

pub invariant_of-self : goal.invariant_of-self
invariant_of-self g c =
    let (left, retained) = c.retain.ensures.keys in
    retains_keep (CalledAt g.F.FnMut) g.K.NoPrefixesBytes.is_key _ c.self.inside.set c.retain.new.self left retained c.self.invariant
