use Rattle.std.proofs.Common.{length}
use Rattle.art_keys.proofs.TextWrites.{IsWriting}
use Rattle.art_keys.proofs.escaped.Escaped.write_at.Given as goal

abbrev pub invariant-loop-byte : goal.invariant-loop-byte
invariant-loop-byte l = IsWriting l.self l.at l.initial.buffer l.end l.buffer l.rest

abbrev pub decreases-loop-byte : goal.decreases-loop-byte
decreases-loop-byte l = length l.rest
