use Rattle.std.proofs.Common.{ap, ◌∙◌}
use Rattle.art_model.specs.Pairs.{of_key}
use Rattle.art_model.specs.Parts.{below}
use Rattle.art_keys.specs.Joins.{joined_bytes}
use Rattle.art_keyed.specs.KeyedPairs.{pairs_with_first}
use Rattle.art_keyed.proofs.KeyRanges.{below_first, of_two_keys}
use Rattle.art_keyed.proofs.map.joined_array.TreeMap+JoinedArray+A+B+N+V+P.with_first.Goals as goal

pub returns-clause-pairs : goal.returns-clause-pairs
returns-clause-pairs g c =
    let first = g.A.AsBytes.bytes in
    let second = g.B.AsBytes.bytes in
    c.prefix.ensures.pairs ∙ ap (λ front. below (of_key (joined_bytes first second)) front c.self.inside.map) c.as_bytes.ensures
    ∙ below_first g.A.NoPrefixesBytes.is_key first g.B.NoPrefixesBytes.is_key second g.met.A.NoPrefixesBytes.no_prefixes c.args.first.now
    c.as_key.ensures c.self.inside.map (of_two_keys g.row.N g.A.NoPrefixesBytes.is_key first g.B.NoPrefixesBytes.is_key second
    c.self.inside.map c.self.invariant)
    ∙ ap (pairs_with_first first (first c.args.first.now)) c.self.view_is
