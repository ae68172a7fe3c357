use Rattle.std.proofs.Common.{take, flat_map}
use Rattle.std.specs.Fmt.{HasWritten, IsPlainFormatter}
use Rattle.art_engine.proofs.ShownKeys.{dotted}
use Rattle.art_engine.proofs.key.ShownKeyDisplay.fmt.Given as goal

-- the bytes so far are written, each after a dot
abbrev pub invariant-loop-byte : goal.invariant-loop-byte
invariant-loop-byte g l =
    IsPlainFormatter l.initial.f → HasWritten g.W.Write.write_str_gives l.initial.f (flat_map dotted (take l.byte-index l.others)) l.f
