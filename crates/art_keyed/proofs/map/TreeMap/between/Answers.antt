use Rattle.std.proofs.Common.{ap, ◌∙◌}
use Rattle.std.specs.Range.Bound.{bound_map}
use Rattle.art_keyed.specs.KeyedPairs.{keys_between}
use Rattle.art_keyed.proofs.KeyRanges.{between_keys}
use Rattle.art_keyed.proofs.Keyed.{rises}
use Rattle.art_keyed.proofs.map.TreeMap.between.Goals as goal

pub returns-clause-pairs : goal.returns-clause-pairs
returns-clause-pairs g c =
    c.range.ensures.pairs tt
    ∙ between_keys _ g.K.AsBytes.bytes g.met.K.OrderedBytes.keeps_order c.args.from c.args.to _ _ c.bytes_of.ensures.bytes
    c.bytes_of-2.ensures.bytes c.bytes_of.ensures.key c.bytes_of-2.ensures.key
    c.self.inside.map c.self.invariant
    ∙ ap (keys_between g.K.OrderedBytes.order (bound_map (λ b. b.now) c.args.from) (bound_map (λ b. b.now) c.args.to)) c.self.view_is

pub returns-clause-rises : goal.returns-clause-rises
returns-clause-rises g c =
    rw (← c.self.view_is) (rises g.row.V.Denot _ g.K.AsBytes.bytes g.met.K.OrderedBytes.keeps_order c.self.inside.map c.self.invariant
    c.range.ensures.sorted)
