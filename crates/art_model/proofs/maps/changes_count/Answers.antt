use Rattle.art_model.proofs.pairs.MapLaws.{put_counts, overwrite_counts, removal_counts}
use Rattle.art_model.proofs.maps.changes_count.Goals as goal

pub returns : goal.returns
returns g c = record { put = put_counts; overwrite = overwrite_counts; removal = removal_counts }
