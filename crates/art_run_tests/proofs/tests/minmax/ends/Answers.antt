use Rattle.std.proofs.Common.{rules}
use Rattle.art_model.proofs.stores.StoreLaws.{has_children}
use Rattle.art_run_tests.proofs.tests.minmax.ends.Goals as goal

pub minimum_unchecked-requires : goal.minimum_unchecked-requires
minimum_unchecked-requires g c = let (pairs, layout, by) = c.requires in (search rules, (layout, has_children _ _ _ _ _ layout by))

pub maximum_unchecked-requires : goal.maximum_unchecked-requires
maximum_unchecked-requires g c = let (pairs, layout, by) = c.requires in (search rules, (layout, has_children _ _ _ _ _ layout by))
