use Rattle.art_model.proofs.places.PlaceLaws.{has_end_node, has_one_end}
use Rattle.art_model.proofs.end_nodes.a_key_has_one_end_node.Goals as goal

pub returns : goal.returns
returns g c = record { there = has_end_node; one = has_one_end }
