use Rattle.art_keyed.proofs.KeptByAll.{pairs_keep}
use Rattle.art_keyed.proofs.map.TreeMap.retain.Goals as goal

pub invariant_of-self : goal.invariant_of-self
invariant_of-self g c =
    let (left, retained) = c.retain.ensures.pairs in
    pairs_keep g.F.FnMut g.K.NoPrefixesBytes.is_key _ c.self.inside.map c.retain.new.self left retained c.self.invariant
