use Rattle.art_model.specs.Pairs.{of_key}
use Rattle.art_keyed.proofs.ExtractedKeys.{extracts_keys}
use Rattle.art_keyed.proofs.Parted.{without_keeps}
use Rattle.art_keyed.proofs.map.TreeMap.extract_in.Goals as goal

pub invariant_of-self : goal.invariant_of-self
invariant_of-self g c = rw c.pop_first_in.ensures.pairs (without_keeps _ (of_key g.K.AsBytes.bytes) c.pop_first_in.result c.self.inside.map c.self.invariant)

pub returns : goal.returns
returns g c =
    rw (← c.self.view_is)
    (extracts_keys _ g.K.AsBytes.bytes g.met.K.OrderedBytes.keeps_order c.args.from c.args.to _ _ c.bytes_of.ensures.bytes
    c.bytes_of-2.ensures.bytes c.bytes_of.ensures.key c.bytes_of-2.ensures.key
    c.self.inside.map c.pop_first_in.new.self c.pop_first_in.result c.self.invariant c.len.ensures.sorted
    (c.pop_first_in.ensures.removed tt) c.pop_first_in.ensures.pairs)
