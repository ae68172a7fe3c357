use Rattle.std.proofs.Common.{ap, ◌∙◌}
use Rattle.art_keyed.specs.KeyedPairs.{set_below}
use Rattle.art_keyed.proofs.KeyRanges.{below_in_set}
use Rattle.art_keyed_sets.proofs.set.TreeSet.prefix.Goals as goal

pub returns-clause-keys : goal.returns-clause-keys
returns-clause-keys g c =
    let text = g.K.StringBytes.text in
    c.prefix.ensures.keys ∙ below_in_set _ g.K.AsBytes.bytes text c.args.prefix.now c.beginning.result.now c.beginning.ensures.begins
    c.self.inside.set c.self.invariant
    ∙ ap (set_below text (text c.args.prefix.now)) c.self.view_is
