use Rattle.art_model.proofs.stores.StoreLaws.{has_radix_layout, have_same_tree}
use Rattle.art_model.proofs.layouts.the_pairs_decide_the_tree.Goals as goal

pub returns : goal.returns
returns g c = record { radix = has_radix_layout; same = have_same_tree }
