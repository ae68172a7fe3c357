use Rattle.art_model.proofs.pairs.MapLaws.{stored_key_stays, new_key_comes, put_keeps_keys, overwrite_of_key_is_put}
use Rattle.art_model.proofs.maps.a_stored_key_stays.Goals as goal

pub returns : goal.returns
returns g c = record { stored = stored_key_stays; new = new_key_comes; keys = put_keeps_keys; overwrite = overwrite_of_key_is_put }
