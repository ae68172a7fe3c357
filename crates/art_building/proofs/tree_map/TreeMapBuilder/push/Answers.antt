use Rattle.art_building.proofs.KeysAfter.{keys_after, never_conflicts}
use Rattle.art_building.proofs.tree_map.TreeMapBuilder.push.Goals as goal

pub invariant_of-self : goal.invariant_of-self
invariant_of-self g c =
    keys_after _ g.K.AsBytes.bytes c.args.key c.args.value c.self.inside.builder c.push.new.self c.push.result
    c.push.ensures.pushed c.push.ensures.kept c.as_key.ensures c.self.invariant

pub returns-clause-no_conflict : goal.returns-clause-no_conflict
returns-clause-no_conflict g c =
    never_conflicts _ g.K.AsBytes.bytes c.args.key c.args.value g.met.K.NoPrefixesBytes.no_prefixes c.self.inside.builder c.push.result
    c.push.ensures.error c.as_key.ensures c.self.invariant
