use Rattle.art_model.proofs.pairs.MapLaws.{keys_are_once, matches_are_one, maps_are_what_is_found}
use Rattle.art_model.proofs.maps.a_map_is_what_is_found.Goals as goal

pub returns : goal.returns
returns g c = record { keys = keys_are_once; matches = matches_are_one; found = maps_are_what_is_found }
