use Rattle.art_keyed_sets.proofs.SetClones.{cloned_keys_keep}
use Rattle.art_keyed_sets.proofs.set.clones.TreeSetClone.clone.Goals as goal

pub invariant_of-result : goal.invariant_of-result
invariant_of-result g c =
    cloned_keys_keep g.K.NoPrefixesBytes.is_key g.K.Clone.is_clone g.met.K.CloneBytes.keeps_key c.self.inside.set c.in_ok-set.set
    c.in_ok-set.ensures c.self.invariant
