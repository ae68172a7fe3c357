use Rattle.std.proofs.Common.{ap, ◌∙◌}
use Rattle.std.specs.Range.Bound.{bound_map}
use Rattle.art_model.specs.Pairs.{first_of}
use Rattle.art_keyed.specs.KeyedPairs.{set_between}
use Rattle.art_keyed.proofs.KeyRanges.{between_in_set}
use Rattle.art_keyed.proofs.Parted.{without_keeps}
use Rattle.art_keyed_sets.proofs.set.TreeSet.take_first_in.Goals as goal

pub invariant_of-self : goal.invariant_of-self
invariant_of-self g c = rw c.pop_first_in.ensures.keys (without_keeps _ g.K.AsBytes.bytes c.pop_first_in.result c.self.inside.set c.self.invariant)

pub returns-clause-removed : goal.returns-clause-removed
returns-clause-removed g c =
    c.pop_first_in.ensures.removed tt
    ∙ ap first_of
    (between_in_set _ g.K.AsBytes.bytes g.met.K.OrderedBytes.keeps_order c.args.from c.args.to _ _ c.bytes_of.ensures.bytes
    c.bytes_of-2.ensures.bytes c.bytes_of.ensures.key c.bytes_of-2.ensures.key
    c.self.inside.set c.self.invariant
    ∙ ap (set_between g.K.OrderedBytes.order (bound_map (λ b. b.now) c.args.from) (bound_map (λ b. b.now) c.args.to)) c.self.view_is)
