use Rattle.std.specs.Fn.{CalledAt}
use Rattle.art_keyed.proofs.KeptByAll.{retains_keep}
use Rattle.art_keyed_sets.proofs.set.TreeSet.retain_by_ref.Goals as goal

pub invariant_of-self : goal.invariant_of-self
invariant_of-self g c =
    retains_keep (CalledAt g.F.FnMut) g.K.NoPrefixesBytes.is_key _ c.self.inside.set c.retain_by_ref.new.self c.retain_by_ref.new.f
    c.retain_by_ref.ensures.keys c.self.invariant
