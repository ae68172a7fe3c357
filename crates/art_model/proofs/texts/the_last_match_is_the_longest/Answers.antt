use Rattle.art_model.proofs.pairs.TextLaws.{last_has_all, last_is_longest}
use Rattle.art_model.proofs.texts.the_last_match_is_the_longest.Goals as goal

pub returns-clause-longest : goal.returns-clause-longest
returns-clause-longest g c = last_is_longest

pub returns-clause-has_all : goal.returns-clause-has_all
returns-clause-has_all g c = last_has_all
