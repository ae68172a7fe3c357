use Rattle.art_keys.specs.NumberLaws.{signed_back, signed_keep_order}
use Rattle.art_keys.proofs.laws.encodings.signed_numbers_come_back_in_order.Goals as goal

pub returns : goal.returns
returns c = record { back = signed_back; order = signed_keep_order }
