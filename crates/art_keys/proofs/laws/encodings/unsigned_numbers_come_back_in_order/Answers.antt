use Rattle.art_keys.specs.NumberLaws.{number_back, numbers_keep_order}
use Rattle.art_keys.proofs.laws.encodings.unsigned_numbers_come_back_in_order.Goals as goal

pub returns : goal.returns
returns c = record { back = number_back; order = numbers_keep_order }
