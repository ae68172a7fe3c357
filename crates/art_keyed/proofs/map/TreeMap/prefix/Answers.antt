use Rattle.std.proofs.Common.{ap, ◌∙◌}
use Rattle.art_keyed.specs.KeyedPairs.{strings_below}
use Rattle.art_keyed.proofs.KeyRanges.{below_strings}
use Rattle.art_keyed.proofs.map.TreeMap.prefix.Goals as goal

pub returns-clause-pairs : goal.returns-clause-pairs
returns-clause-pairs g c =
    let text = g.K.StringBytes.text in
    c.prefix.ensures.pairs ∙ below_strings _ g.K.AsBytes.bytes text c.args.prefix.now c.beginning.result.now c.beginning.ensures.begins
    c.self.inside.map c.self.invariant
    ∙ ap (strings_below text (text c.args.prefix.now)) c.self.view_is
