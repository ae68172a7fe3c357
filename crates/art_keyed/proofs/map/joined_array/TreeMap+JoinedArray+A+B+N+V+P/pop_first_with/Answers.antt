use Rattle.std.proofs.Common.{ap, ◌∙◌}
use Rattle.art_model.specs.Pairs.{first_of, of_key}
use Rattle.art_model.specs.Parts.{below, without_below}
use Rattle.art_keys.specs.Joins.{joined_bytes}
use Rattle.art_keyed.proofs.KeyRanges.{below_first, first_out, first_out_keeps, of_two_keys}
use Rattle.art_keyed.proofs.map.joined_array.TreeMap+JoinedArray+A+B+N+V+P.pop_first_with.Goals as goal

pub invariant_of-self : goal.invariant_of-self
invariant_of-self g c =
    rw c.pop_first_below.ensures.pairs (first_out_keeps _
    (joined_bytes g.A.AsBytes.bytes g.B.AsBytes.bytes) c.as_bytes.result.now c.self.inside.map c.self.invariant)

pub returns-clause-pairs : goal.returns-clause-pairs
returns-clause-pairs g c =
    let first = g.A.AsBytes.bytes in
    let second = g.B.AsBytes.bytes in
    rw (← c.self.view_is) (c.pop_first_below.ensures.pairs
    ∙ ap (λ prefix. without_below (of_key (joined_bytes first second)) prefix 1 c.self.inside.map) c.as_bytes.ensures
    ∙ first_out g.A.NoPrefixesBytes.is_key first g.B.NoPrefixesBytes.is_key second g.met.A.NoPrefixesBytes.no_prefixes c.args.first.now
    c.as_key.ensures c.self.inside.map (of_two_keys g.row.N g.A.NoPrefixesBytes.is_key first g.B.NoPrefixesBytes.is_key second
    c.self.inside.map c.self.invariant))

pub returns-clause-removed : goal.returns-clause-removed
returns-clause-removed g c =
    let first = g.A.AsBytes.bytes in
    let second = g.B.AsBytes.bytes in
    rw (← c.self.view_is) (c.pop_first_below.ensures.removed
    ∙ ap first_of (ap (λ prefix. below (of_key (joined_bytes first second)) prefix c.self.inside.map) c.as_bytes.ensures
    ∙ below_first g.A.NoPrefixesBytes.is_key first g.B.NoPrefixesBytes.is_key second g.met.A.NoPrefixesBytes.no_prefixes c.args.first.now
    c.as_key.ensures c.self.inside.map (of_two_keys g.row.N g.A.NoPrefixesBytes.is_key first g.B.NoPrefixesBytes.is_key second
    c.self.inside.map c.self.invariant)))
