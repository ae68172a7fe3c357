use Rattle.art_model.proofs.radix.TreeLaws.{has_tree, is_tree_of_its_pairs, is_one_tree}
use Rattle.art_model.proofs.trees.the_tree_of_a_map_is_one.Goals as goal

pub returns : goal.returns
returns g c = record { there = has_tree; its_own = is_tree_of_its_pairs; one = is_one_tree }
