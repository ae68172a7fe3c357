use Rattle.std.proofs.Common.{ap, length, ◌∙◌}
use Rattle.art_model.specs.Pairs.{of_key}
use Rattle.art_model.specs.Parts.{below, not_below}
use Rattle.art_keys.specs.Joins.{joined_bytes}
use Rattle.art_keyed.proofs.KeyRanges.{below_first, not_below_first, others_keep}
use Rattle.art_keyed.proofs.map.joined.TreeMap+Joined+A+B+V+P.remove_with_first.Goals as goal

pub invariant_of-self : goal.invariant_of-self
invariant_of-self g c = rw c.remove_prefix.ensures.pairs
    (others_keep _ (joined_bytes g.A.AsBytes.bytes g.B.AsBytes.bytes) c.as_bytes.result.now c.self.inside.map c.self.invariant)

pub returns-clause-pairs : goal.returns-clause-pairs
returns-clause-pairs g c =
    let first = g.A.AsBytes.bytes in
    let second = g.B.AsBytes.bytes in
    rw (← c.self.view_is) (c.remove_prefix.ensures.pairs
    ∙ ap (λ prefix. not_below (of_key (joined_bytes first second)) prefix c.self.inside.map) c.as_bytes.ensures
    ∙ not_below_first g.A.NoPrefixesBytes.is_key first g.B.NoPrefixesBytes.is_key second g.met.A.NoPrefixesBytes.no_prefixes
    c.args.first.now c.as_key.ensures c.self.inside.map c.self.invariant)

pub returns-clause-removed : goal.returns-clause-removed
returns-clause-removed g c =
    let first = g.A.AsBytes.bytes in
    let second = g.B.AsBytes.bytes in
    rw (← c.self.view_is) (c.remove_prefix.ensures.removed
    ∙ ap length (ap (λ prefix. below (of_key (joined_bytes first second)) prefix c.self.inside.map) c.as_bytes.ensures
    ∙ below_first g.A.NoPrefixesBytes.is_key first g.B.NoPrefixesBytes.is_key second g.met.A.NoPrefixesBytes.no_prefixes c.args.first.now
    c.as_key.ensures c.self.inside.map c.self.invariant))
