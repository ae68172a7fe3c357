use Rattle.std.proofs.Common.{take}
use Rattle.std.specs.Bool.{OnFalse, OnTrue}
use Rattle.art_keys.specs.Escapes.{IsPlain}
use Rattle.art_keys.proofs.escaped.Escaped.is_plain.Given as goal

-- whether each byte so far is plain
abbrev pub invariant-loop-byte : goal.invariant-loop-byte
invariant-loop-byte l = OnTrue l.is_plain (IsPlain (take l.byte-index l.text)) × OnFalse l.is_plain (¬ IsPlain (take l.byte-index l.text))
