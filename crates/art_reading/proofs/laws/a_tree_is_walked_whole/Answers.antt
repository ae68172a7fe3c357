use Rattle.art_reading.proofs.Iterators.{walks_whole}
use Rattle.art_reading.proofs.laws.a_tree_is_walked_whole.Goals as goal

pub returns : goal.returns
returns g c = walks_whole
