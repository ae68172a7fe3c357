use Rattle.std.proofs.Common.{ap, refl, ◌∙◌}
use Rattle.std.specs.Range.Bound.{bound_map}
use Rattle.std.specs.declared.ops.Bound.TheVariants.{Unbounded}
use Rattle.art_model.specs.Pairs.{last_of}
use Rattle.art_keyed.specs.KeyedPairs.{set_between}
use Rattle.art_keyed.proofs.KeyRanges.{between_in_set}
use Rattle.art_keyed_sets.proofs.set.TreeSet.last_up_to.Goals as goal

pub returns : goal.returns
returns g c =
    c.last_up_to.ensures
    ∙ ap last_of (between_in_set _ g.K.AsBytes.bytes g.met.K.OrderedBytes.keeps_order Unbounded c.args.to Unbounded _ refl
    c.bytes_of.ensures.bytes tt c.bytes_of.ensures.key c.self.inside.set c.self.invariant)
    ∙ ap (λ pairs. last_of (set_between g.K.OrderedBytes.order Unbounded (bound_map (λ b. b.now) c.args.to) pairs)) c.self.view_is
