use Rattle.std.proofs.Common.{ap, refl, ◌∙◌}
use Rattle.std.specs.Range.Bound.{bound_map}
use Rattle.std.specs.declared.ops.Bound.TheVariants.{Unbounded}
use Rattle.art_model.specs.Pairs.{first_of}
use Rattle.art_keyed.specs.KeyedPairs.{set_between}
use Rattle.art_keyed.proofs.KeyRanges.{between_in_set}
use Rattle.art_keyed_sets.proofs.set.TreeSet.first_from.Goals as goal

pub returns : goal.returns
returns g c =
    c.first_from.ensures
    ∙ ap first_of (between_in_set _ g.K.AsBytes.bytes g.met.K.OrderedBytes.keeps_order c.args.from Unbounded _ Unbounded
    c.bytes_of.ensures.bytes refl c.bytes_of.ensures.key tt c.self.inside.set c.self.invariant)
    ∙ ap (λ pairs. first_of (set_between g.K.OrderedBytes.order (bound_map (λ b. b.now) c.args.from) Unbounded pairs)) c.self.view_is
