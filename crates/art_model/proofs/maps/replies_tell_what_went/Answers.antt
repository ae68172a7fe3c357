use Rattle.art_model.proofs.pairs.MapLaws.{put_tells, overwrite_tells, removal_tells}
use Rattle.art_model.proofs.maps.replies_tell_what_went.Goals as goal

pub returns : goal.returns
returns g c = record { put = put_tells; overwrite = overwrite_tells; removal = removal_tells }
