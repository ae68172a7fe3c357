use Rattle.art_model.proofs.keys.KeyLaws.{fronts_are_decided, relation_is_decided, sameness_is_decided, common_front_is_longest}
use Rattle.art_model.proofs.order.tests_of_keys_are_right.Goals as goal

pub returns : goal.returns
returns c = record { fronts = fronts_are_decided; related = relation_is_decided; same = sameness_is_decided; common = common_front_is_longest }
