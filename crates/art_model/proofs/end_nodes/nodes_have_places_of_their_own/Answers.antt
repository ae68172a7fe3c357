use Rattle.art_model.proofs.places.PlaceLaws.{places_rise}
use Rattle.art_model.proofs.end_nodes.nodes_have_places_of_their_own.Goals as goal

pub returns : goal.returns
returns g c = places_rise
