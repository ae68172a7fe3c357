use Rattle.art_model.proofs.stores.StoreLaws.{has_one_layout}
use Rattle.art_model.proofs.layouts.a_name_has_one_layout.Goals as goal

pub returns : goal.returns
returns g c = has_one_layout
