use Rattle.std.proofs.Common.{ap, length, ◌∙◌}
use Rattle.art_keyed.proofs.KeyRanges.{below_strings, not_below_strings, others_keep}
use Rattle.art_keyed.proofs.map.TreeMap.remove_prefix.Goals as goal

pub invariant_of-self : goal.invariant_of-self
invariant_of-self g c = rw c.remove_prefix.ensures.pairs (others_keep _ g.K.AsBytes.bytes c.beginning.result.now c.self.inside.map c.self.invariant)

pub returns-clause-pairs : goal.returns-clause-pairs
returns-clause-pairs g c =
    rw (← c.self.view_is) (c.remove_prefix.ensures.pairs
    ∙ not_below_strings _ g.K.AsBytes.bytes g.K.StringBytes.text c.args.prefix.now c.beginning.result.now c.beginning.ensures.begins
    c.self.inside.map c.self.invariant)

pub returns-clause-removed : goal.returns-clause-removed
returns-clause-removed g c =
    rw (← c.self.view_is) (c.remove_prefix.ensures.removed
    ∙ ap length (below_strings _ g.K.AsBytes.bytes g.K.StringBytes.text c.args.prefix.now c.beginning.result.now c.beginning.ensures.begins
    c.self.inside.map c.self.invariant))
