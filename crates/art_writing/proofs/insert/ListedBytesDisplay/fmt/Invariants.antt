use Rattle.std.proofs.Common.{take, flat_map, ◌++◌, codes}
use Rattle.std.specs.Fmt.{HasWritten, IsPlainFormatter, decimal}
use Rattle.art_writing.proofs.insert.ListedBytesDisplay.fmt.Given as goal

-- the bytes so far are written, each after a comma
abbrev pub invariant-loop-byte : goal.invariant-loop-byte
invariant-loop-byte g l =
    IsPlainFormatter l.initial.f → HasWritten g.W.Write.write_str_gives l.initial.f
    (flat_map (λ byte. codes ", " ++ decimal byte) (take l.byte-index l.others)) l.f
