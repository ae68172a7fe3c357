use Rattle.art_model.proofs.pairs.MapLaws.{maps_stay_maps}
use Rattle.art_model.proofs.maps.changes_leave_a_map.Goals as goal

pub returns : goal.returns
returns g c = maps_stay_maps
