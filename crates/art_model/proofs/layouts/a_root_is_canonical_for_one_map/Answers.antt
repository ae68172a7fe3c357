use Rattle.art_model.proofs.stores.StoreLaws.{has_one_map}
use Rattle.art_model.proofs.layouts.a_root_is_canonical_for_one_map.Goals as goal

pub returns : goal.returns
returns g c = has_one_map
