use Rattle.std.proofs.Common.{rules}
use Rattle.art_model.specs.Layouts.{leaf_names}
use Rattle.art_operations.proofs.CallerLemmas.{has_children, walks_whole}
use Rattle.uses.proofs.walk.Goals as goal

pub minimum_unchecked-first-requires : goal.minimum_unchecked-first-requires
minimum_unchecked-first-requires g c = let (pairs, layout, by) = c.requires in (search rules, (layout, has_children _ _ _ _ _ layout by))

pub maximum_unchecked-last-requires : goal.maximum_unchecked-last-requires
maximum_unchecked-last-requires g c = let (pairs, layout, by) = c.requires in (search rules, (layout, has_children _ _ _ _ _ layout by))

pub new-requires : goal.new-requires
new-requires g c =
    let (pairs, layout, by) = c.requires in
    let full = has_children _ _ _ _ _ layout by in (
      search rules,
      (
        leaf_names layout,
        walks_whole _ _ _ _ pairs layout _ _ by (c.minimum_unchecked-first.ensures layout full)
            (c.maximum_unchecked-last.ensures layout full),
      ),
    )

pub returns : goal.returns
returns g c pairs layout by =
    let full = has_children _ _ _ _ _ layout by in
    rw c.new.ensures (walks_whole _ _ _ _ pairs layout _ _ by (c.minimum_unchecked-first.ensures layout full) (c.maximum_unchecked-last.ensures layout full))
