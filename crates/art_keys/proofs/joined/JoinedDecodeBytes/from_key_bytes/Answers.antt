use Rattle.std.proofs.Common.{◌∙◌}
use Rattle.art_keys.proofs.joined.JoinedDecodeBytes.from_key_bytes.Goals as goal

pub invariant_of-result : goal.invariant_of-result
invariant_of-result g c =
    record { key = c.requires.key; of_key = c.requires.of_key; is = c.in_ok-from_slice.ensures.bytes ∙ c.requires.is }
