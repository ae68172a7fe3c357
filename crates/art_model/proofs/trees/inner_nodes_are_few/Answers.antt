use Rattle.art_model.proofs.radix.TreeLaws.{have_two_children, has_few_inner_nodes}
use Rattle.art_model.proofs.trees.inner_nodes_are_few.Goals as goal

pub returns : goal.returns
returns g c = record { two = have_two_children; few = has_few_inner_nodes }
