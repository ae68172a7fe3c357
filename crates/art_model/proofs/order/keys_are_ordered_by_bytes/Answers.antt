use Rattle.art_model.proofs.keys.KeyLaws.{order_is_decided, order_is_strict, order_is_transitive, order_is_total}
use Rattle.art_model.proofs.order.keys_are_ordered_by_bytes.Goals as goal

pub returns : goal.returns
returns c = record { bytes = order_is_decided; strict = order_is_strict; transitive = order_is_transitive; total = order_is_total }
