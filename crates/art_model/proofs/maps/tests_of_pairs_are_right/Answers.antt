use Rattle.art_model.proofs.pairs.MapLaws.{keys_are_decided, conflicts_are_decided}
use Rattle.art_model.proofs.maps.tests_of_pairs_are_right.Goals as goal

pub returns : goal.returns
returns g c = record { keys = keys_are_decided; conflicts = conflicts_are_decided }
