use Rattle.std.proofs.Common.{◌≡◌, ◌++◌, List, length, None, IsSome, option_map}
use Rattle.std.specs.FinMap as map
use Rattle.std.specs.List.{AllByRecursion as Each}
use Rattle.art_model.specs.Prelude.{leaf_name, LeafPtr, last_of, AreLinked, links_at}
use Rattle.art_checking.specs.Checked.{names_of_leaves}
use Rattle.art_checking.proofs.well_formed.check.check_links.Given as goal

abbrev pub invariant-along : goal.invariant-along
invariant-along g l =
    Each (λ leaf. IsSome (map.get l.store.leaves leaf)) l.rest
    × ((done : List LeafPtr) × (l.fn.leaves ≡ done ++ l.rest) × (option_map leaf_name l.previous ≡ last_of (names_of_leaves done)))
    × (AreLinked (links_at l.store) (option_map leaf_name l.previous) (names_of_leaves l.rest) None →
    AreLinked (links_at l.store) None (names_of_leaves l.fn.leaves) None)

abbrev pub decreases-along : goal.decreases-along
decreases-along g l = length l.rest
