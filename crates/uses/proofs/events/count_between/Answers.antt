use Rattle.std.proofs.Common.{ap, length, refl, w64, ◌∙◌}
use Rattle.std.proofs.lemmas.Int.{to_z-of_z}
use Rattle.art_operations.proofs.CallerLemmas.{pairs_counted}
use Rattle.uses.proofs.events.count_between.Goals as goal

pub returns : goal.returns
returns c =
    pairs_counted c.events_between.result c.count.result c.count.ensures.ran ∙ ap length c.events_between.ensures.pairs
    ∙ (rw (to_z-of_z w64 c.args.from c.ranges.from, to_z-of_z w64 c.args.to c.ranges.to) refl)
