use Rattle.std.proofs.Common.{ap₂, ◌∙◌}
use Rattle.std.specs.declared.ops.Bound.TheVariants.{Excluded, Included}
use Rattle.art_keys.specs.Joins.{pair_cmp}
use Rattle.art_keyed.specs.KeyedPairs.{keys_between}
use Rattle.art_keyed.proofs.Seconds.{range_seconds}
use Rattle.art_keyed.proofs.map.joined.TreeMap+Joined+A+B+V+P.range_with.Goals as goal

pub returns-clause-pairs : goal.returns-clause-pairs
returns-clause-pairs g c =
    c.range.ensures.pairs tt
    ∙ ap₂ (λ from to. keys_between (pair_cmp g.A.OrderedBytes.order g.B.OrderedBytes.order) (Included from) (Excluded to) c.args.self.now)
    c.in_ok-from.ensures.key c.in_ok-to.ensures.key
    ∙ range_seconds g.A.NoPrefixesBytes.is_key g.A.AsBytes.bytes g.met.A.OrderedBytes.keeps_order g.B.OrderedBytes.order c.args.first.now
    c.as_key.ensures c.args.seconds.start c.args.seconds.end
    _ (λ both known. known.0) c.args.self.now c.range.ensures.known
