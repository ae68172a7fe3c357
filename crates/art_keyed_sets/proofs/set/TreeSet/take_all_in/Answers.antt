use Rattle.std.proofs.Common.{ap, length, ◌∙◌}
use Rattle.std.specs.Range.Bound.{bound_map}
use Rattle.art_keyed.specs.KeyedPairs.{set_between}
use Rattle.art_keyed.specs.KeyedParts.{set_not_between}
use Rattle.art_keyed.proofs.KeyRanges.{between_in_set}
use Rattle.art_keyed.proofs.Parted.{not_between_in_set, others_keep}
use Rattle.art_keyed_sets.proofs.set.TreeSet.take_all_in.Goals as goal

pub invariant_of-self : goal.invariant_of-self
invariant_of-self g c = rw (c.remove_range.ensures.keys tt) (others_keep _ g.K.AsBytes.bytes _ _ c.self.inside.set c.self.invariant)

pub returns-clause-keys : goal.returns-clause-keys
returns-clause-keys g c =
    c.remove_range.ensures.keys tt
    ∙ not_between_in_set _ g.K.AsBytes.bytes g.met.K.OrderedBytes.keeps_order c.args.from c.args.to _ _
    c.bytes_of.ensures.bytes c.bytes_of-2.ensures.bytes c.bytes_of.ensures.key c.bytes_of-2.ensures.key
    c.self.inside.set c.self.invariant
    ∙ ap (set_not_between g.K.OrderedBytes.order (bound_map (λ b. b.now) c.args.from) (bound_map (λ b. b.now) c.args.to)) c.self.view_is

pub returns-clause-removed : goal.returns-clause-removed
returns-clause-removed g c =
    c.remove_range.ensures.removed tt
    ∙ ap length
    (between_in_set _ g.K.AsBytes.bytes g.met.K.OrderedBytes.keeps_order c.args.from c.args.to _ _ c.bytes_of.ensures.bytes
    c.bytes_of-2.ensures.bytes c.bytes_of.ensures.key c.bytes_of-2.ensures.key
    c.self.inside.set c.self.invariant
    ∙ ap (set_between g.K.OrderedBytes.order (bound_map (λ b. b.now) c.args.from) (bound_map (λ b. b.now) c.args.to)) c.self.view_is)
