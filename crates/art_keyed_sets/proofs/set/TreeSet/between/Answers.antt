use Rattle.std.proofs.Common.{ap, ◌∙◌}
use Rattle.std.specs.Range.Bound.{bound_map}
use Rattle.art_keyed.specs.KeyedPairs.{set_between}
use Rattle.art_keyed.proofs.KeyRanges.{between_in_set}
use Rattle.art_keyed_sets.proofs.set.TreeSet.between.Goals as goal

pub returns-clause-keys : goal.returns-clause-keys
returns-clause-keys g c =
    c.range.ensures.keys tt
    ∙ between_in_set _ g.K.AsBytes.bytes g.met.K.OrderedBytes.keeps_order c.args.from c.args.to _ _ c.bytes_of.ensures.bytes
    c.bytes_of-2.ensures.bytes c.bytes_of.ensures.key c.bytes_of-2.ensures.key
    c.self.inside.set c.self.invariant
    ∙ ap (set_between g.K.OrderedBytes.order (bound_map (λ b. b.now) c.args.from) (bound_map (λ b. b.now) c.args.to)) c.self.view_is
