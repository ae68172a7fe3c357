use Rattle.art_model.proofs.pairs.TextLaws.{first_is_shortest}
use Rattle.art_model.proofs.texts.the_first_match_is_the_shortest.Goals as goal

pub returns : goal.returns
returns g c = first_is_shortest
