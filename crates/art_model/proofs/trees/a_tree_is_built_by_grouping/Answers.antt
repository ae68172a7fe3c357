use Rattle.art_model.proofs.radix.TreeLaws.{is_built_by_grouping}
use Rattle.art_model.proofs.trees.a_tree_is_built_by_grouping.Goals as goal

pub returns : goal.returns
returns g c = is_built_by_grouping
