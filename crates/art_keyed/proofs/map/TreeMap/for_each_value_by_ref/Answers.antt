use Rattle.art_keyed.proofs.KeptByAll.{keys_keep}
use Rattle.art_keyed.proofs.map.TreeMap.for_each_value_by_ref.Goals as goal

pub invariant_of-self : goal.invariant_of-self
invariant_of-self g c =
    keys_keep g.K.NoPrefixesBytes.is_key c.self.inside.map c.for_each_value_by_ref.new.self
    c.for_each_value_by_ref.ensures.keys c.self.invariant
