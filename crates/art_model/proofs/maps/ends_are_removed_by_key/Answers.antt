use Rattle.art_model.proofs.pairs.MapLaws.{first_is_removed_by_key, last_is_removed_by_key}
use Rattle.art_model.proofs.maps.ends_are_removed_by_key.Goals as goal

pub returns : goal.returns
returns g c = record { first = first_is_removed_by_key; last = last_is_removed_by_key }
