use Rattle.std.proofs.Common.{ap, length, ◌∙◌}
use Rattle.std.specs.Range.Bound.{bound_map}
use Rattle.art_model.specs.Pairs.{of_key}
use Rattle.art_keyed.specs.KeyedPairs.{keys_between}
use Rattle.art_keyed.specs.KeyedParts.{keys_not_between}
use Rattle.art_keyed.proofs.KeyRanges.{between_keys}
use Rattle.art_keyed.proofs.Parted.{not_between_keys, others_keep}
use Rattle.art_keyed.proofs.map.TreeMap.take_all_in.Goals as goal

pub invariant_of-self : goal.invariant_of-self
invariant_of-self g c = rw (c.remove_range.ensures.pairs tt) (others_keep _ (of_key g.K.AsBytes.bytes) _ _ c.self.inside.map c.self.invariant)

pub returns-clause-pairs : goal.returns-clause-pairs
returns-clause-pairs g c =
    c.remove_range.ensures.pairs tt
    ∙ not_between_keys _ g.K.AsBytes.bytes g.met.K.OrderedBytes.keeps_order c.args.from c.args.to _ _ c.bytes_of.ensures.bytes
    c.bytes_of-2.ensures.bytes c.bytes_of.ensures.key c.bytes_of-2.ensures.key
    c.self.inside.map c.self.invariant
    ∙ ap (keys_not_between g.K.OrderedBytes.order (bound_map (λ b. b.now) c.args.from) (bound_map (λ b. b.now) c.args.to)) c.self.view_is

pub returns-clause-removed : goal.returns-clause-removed
returns-clause-removed g c =
    c.remove_range.ensures.removed tt
    ∙ ap length
    (between_keys _ g.K.AsBytes.bytes g.met.K.OrderedBytes.keeps_order c.args.from c.args.to _ _ c.bytes_of.ensures.bytes
    c.bytes_of-2.ensures.bytes c.bytes_of.ensures.key c.bytes_of-2.ensures.key
    c.self.inside.map c.self.invariant
    ∙ ap (keys_between g.K.OrderedBytes.order (bound_map (λ b. b.now) c.args.from) (bound_map (λ b. b.now) c.args.to)) c.self.view_is)
