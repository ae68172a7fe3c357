use Rattle.std.proofs.Common.{ap, length, refl, ◌∙◌}
use Rattle.std.proofs.lemmas.Iterator.Consumers.{YieldsList-from_first, count_from_yields_List}
use Rattle.art_iterating.specs.MapItems.{deref_pair}
use Rattle.string_map.proofs.calls.count_below.Goals as goal

pub returns : goal.returns
returns c =
    count_from_yields_List c.prefix_text.result c.count.result c.count.ensures.ran (YieldsList-from_first deref_pair (λ pairs. pairs) c.prefix_text.result refl)
    ∙ ap length c.prefix_text.ensures.pairs
