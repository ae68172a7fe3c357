use Rattle.art_model.proofs.places.PlaceLaws.{places_are_read_off, prefixes_are_read_off}
use Rattle.art_model.proofs.end_nodes.places_are_read_off.Goals as goal

pub returns : goal.returns
returns g c = record { place = places_are_read_off; prefix = prefixes_are_read_off }
