use Rattle.art_keys.specs.EscapeLaws.{escape_apart, escape_order, unescape-escape}
use Rattle.art_keys.proofs.laws.encodings.escapes_come_back_in_order.Goals as goal

pub returns : goal.returns
returns c = record { back = unescape-escape; order = escape_order; apart = escape_apart }
