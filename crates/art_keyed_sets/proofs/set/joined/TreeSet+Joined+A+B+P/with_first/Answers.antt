use Rattle.std.proofs.Common.{ap, ◌∙◌}
use Rattle.art_model.specs.Parts.{below}
use Rattle.art_keys.specs.Joins.{joined_bytes}
use Rattle.art_keyed.specs.KeyedPairs.{set_with_first}
use Rattle.art_keyed.proofs.KeyRanges.{below_first_in_set}
use Rattle.art_keyed_sets.proofs.set.joined.TreeSet+Joined+A+B+P.with_first.Goals as goal

pub returns-clause-keys : goal.returns-clause-keys
returns-clause-keys g c =
    let first = g.A.AsBytes.bytes in
    let second = g.B.AsBytes.bytes in
    c.prefix.ensures.keys ∙ ap (λ prefix. below (joined_bytes first second) prefix c.self.inside.set) c.as_bytes.ensures
    ∙ below_first_in_set g.A.NoPrefixesBytes.is_key first g.B.NoPrefixesBytes.is_key second g.met.A.NoPrefixesBytes.no_prefixes
    c.args.first.now c.as_key.ensures c.self.inside.set c.self.invariant
    ∙ ap (set_with_first first (first c.args.first.now)) c.self.view_is
