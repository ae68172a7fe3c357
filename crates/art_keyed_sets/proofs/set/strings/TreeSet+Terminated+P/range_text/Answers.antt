use Rattle.std.proofs.Common.{ap, ◌∙◌}
use Rattle.std.specs.Cmp.Lexicographic.{slice_cmp}
use Rattle.std.specs.Ordering.{nat_cmp}
use Rattle.std.specs.Range.Bound.{bound_map}
use Rattle.art_keyed.specs.KeyedPairs.{set_between}
use Rattle.art_keyed.proofs.TextRanges.{ended_in_set}
use Rattle.art_keyed_sets.proofs.set.strings.TreeSet+Terminated+P.range_text.Goals as goal

pub returns-clause-keys : goal.returns-clause-keys
returns-clause-keys g c =
    c.range_by.ensures.keys
    ∙ ended_in_set c.args.from c.args.to _ _ c.bound_of.ensures c.bound_of-2.ensures c.self.inside.set c.self.invariant
    ∙ ap (set_between (slice_cmp nat_cmp) (bound_map (λ b. b.now) c.args.from) (bound_map (λ b. b.now) c.args.to)) c.self.view_is
