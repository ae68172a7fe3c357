use Rattle.std.proofs.Common.{rules}
use Rattle.art_checking.proofs.well_formed.check.check_nodes.Goals as goal

pub check_root-requires : goal.check_root-requires
check_root-requires g c = (
  search rules,
  (
    record { none = c.new-seen.ensures.places; leaves = c.new-seen.ensures.leaves; count = c.new-seen.ensures.count },
    c.new-place.ensures.items,
  ),
)
