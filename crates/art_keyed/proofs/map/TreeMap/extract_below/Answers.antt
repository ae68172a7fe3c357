use Rattle.art_keyed.proofs.KeyRanges.{first_out_keeps}
use Rattle.art_keyed.proofs.ExtractedKeys.{extracts_strings}
use Rattle.art_keyed.proofs.map.TreeMap.extract_below.Goals as goal

pub invariant_of-self : goal.invariant_of-self
invariant_of-self g c = rw c.pop_first_below.ensures.pairs (first_out_keeps _ g.K.AsBytes.bytes c.beginning.result.now c.self.inside.map c.self.invariant)

pub returns : goal.returns
returns g c =
    let took = c.pop_first_below.ensures in
    rw (← c.self.view_is)
    (extracts_strings _ g.K.AsBytes.bytes g.K.StringBytes.text c.args.prefix.now c.beginning.result.now c.beginning.ensures.begins
    c.self.inside.map c.pop_first_below.new.self c.pop_first_below.result
    c.self.invariant took.was_sorted took.removed took.pairs)
