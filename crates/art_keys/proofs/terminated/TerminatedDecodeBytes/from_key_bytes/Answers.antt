use Rattle.std.proofs.Common.{subst, sym, ◌∙◌}
use Rattle.art_keys.specs.Ended.{IsEnded}
use Rattle.art_keys.specs.EndedLaws.{ended_is}
use Rattle.art_keys.proofs.terminated.TerminatedDecodeBytes.from_key_bytes.Goals as goal

pub invariant_of-result : goal.invariant_of-result
invariant_of-result c =
    subst IsEnded (sym (c.in_ok-from_slice.ensures.bytes ∙ c.requires.is)) (ended_is c.requires.key c.requires.of_key)
