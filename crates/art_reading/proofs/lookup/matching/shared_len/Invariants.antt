use Rattle.std.proofs.Common.{◌≡◌, ◌+◌, length, drop}
use Rattle.art_model.specs.Prelude.{common_front}
use Rattle.art_reading.proofs.lookup.matching.shared_len.Given as goal

abbrev pub invariant-loop-i : goal.invariant-loop-i
invariant-loop-i l = length (common_front l.a l.b) ≡ l.i + length (common_front (drop l.i l.a) (drop l.i l.b))
