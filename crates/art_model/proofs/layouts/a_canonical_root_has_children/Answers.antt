use Rattle.art_model.proofs.stores.StoreLaws.{has_children}
use Rattle.art_model.proofs.layouts.a_canonical_root_has_children.Goals as goal

pub returns : goal.returns
returns g c = has_children
