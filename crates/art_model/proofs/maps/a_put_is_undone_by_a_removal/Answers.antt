use Rattle.art_model.proofs.pairs.MapLaws.{put_is_undone}
use Rattle.art_model.proofs.maps.a_put_is_undone_by_a_removal.Goals as goal

pub returns : goal.returns
returns g c = put_is_undone
