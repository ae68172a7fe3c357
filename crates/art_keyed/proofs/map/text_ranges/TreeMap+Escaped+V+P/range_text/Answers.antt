use Rattle.std.proofs.Common.{ap, ◌∙◌}
use Rattle.std.specs.Cmp.Lexicographic.{slice_cmp}
use Rattle.std.specs.Ordering.{nat_cmp}
use Rattle.std.specs.Range.Bound.{bound_map}
use Rattle.art_keyed.specs.KeyedPairs.{keys_between}
use Rattle.art_keyed.proofs.TextRanges.{escaped_between}
use Rattle.art_keyed.proofs.map.text_ranges.TreeMap+Escaped+V+P.range_text.Goals as goal

pub returns-clause-pairs : goal.returns-clause-pairs
returns-clause-pairs g c =
    c.range_by.ensures.pairs
    ∙ escaped_between c.args.from c.args.to _ _ c.bytes_at.ensures c.bytes_at-2.ensures c.self.inside.map c.self.invariant
    ∙ ap (keys_between (slice_cmp nat_cmp) (bound_map (λ b. b.now) c.args.from) (bound_map (λ b. b.now) c.args.to)) c.self.view_is
