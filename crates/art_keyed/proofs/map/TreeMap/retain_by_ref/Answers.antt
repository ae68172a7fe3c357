use Rattle.art_keyed.proofs.KeptByAll.{pairs_keep}
use Rattle.art_keyed.proofs.map.TreeMap.retain_by_ref.Goals as goal

pub invariant_of-self : goal.invariant_of-self
invariant_of-self g c =
    pairs_keep g.F.FnMut g.K.NoPrefixesBytes.is_key _ c.self.inside.map c.retain_by_ref.new.self c.retain_by_ref.new.f
    c.retain_by_ref.ensures.pairs c.self.invariant
