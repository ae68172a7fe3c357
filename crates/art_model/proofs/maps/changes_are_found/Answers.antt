use Rattle.art_model.proofs.pairs.MapLaws.{put_is_found, overwrite_is_found, removed_is_gone}
use Rattle.art_model.proofs.maps.changes_are_found.Goals as goal

pub returns : goal.returns
returns g c = record { put = put_is_found; overwrite = overwrite_is_found; removal = removed_is_gone }
