use Rattle.std.proofs.Common.{take}
use Rattle.snapshot_format.specs.Reading.{Reads}
use Rattle.snapshot_format.proofs.source.Source.expect.Given as goal

-- the bytes so far were read
abbrev pub invariant-loop-byte : goal.invariant-loop-byte
invariant-loop-byte g l = Reads g.R.Read.remaining l.fn.self l.self (take l.byte-index l.wanted)
