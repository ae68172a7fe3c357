use Rattle.art_model.proofs.radix.Shapes.{has_shape}
use Rattle.art_model.proofs.layouts.a_tree_has_a_shape.Goals as goal

pub returns : goal.returns
returns g c = has_shape
