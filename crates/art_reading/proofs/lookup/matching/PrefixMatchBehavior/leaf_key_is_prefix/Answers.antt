use Rattle.art_reading.proofs.Rests.{rest_front}
use Rattle.art_reading.proofs.lookup.matching.PrefixMatchBehavior.leaf_key_is_prefix.Goals as goal

pub returns : goal.returns
returns g c = rw (← c.as_bytes-leaf_bytes.ensures) (rest_front _ _ c.compared_from-from.ensures.value c.begins_with.ensures)
