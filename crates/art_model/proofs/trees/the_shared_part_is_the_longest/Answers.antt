use Rattle.art_model.proofs.radix.TreeLaws.{part_is_shared, part_is_longest}
use Rattle.art_model.proofs.trees.the_shared_part_is_the_longest.Goals as goal

pub returns : goal.returns
returns g c = record { shared = part_is_shared; longest = part_is_longest }
