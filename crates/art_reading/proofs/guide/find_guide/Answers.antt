use Rattle.std.proofs.Common.{rules}
use Rattle.art_reading.proofs.Guides.{first_guides, guides_full}
use Rattle.art_reading.proofs.guide.find_guide.Goals as goal

pub first_below_visiting-more-requires : goal.first_below_visiting-more-requires
first_below_visiting-more-requires g c =
    let (pairs, layout, by) = c.requires.root in
    let all = c.walk_by_places-last.ensures.all pairs layout by in
    (search rules, (all.node, guides_full by all))

pub returns-clause-guide : goal.returns-clause-guide
returns-clause-guide g c pairs layout by =
    let all = c.walk_by_places-last.ensures.all pairs layout by in
    first_guides by all (c.first_below_visiting-more.ensures.leaf all.node (guides_full by all))
