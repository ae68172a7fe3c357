use Rattle.std.proofs.Common.{◌≡◌, map}
use Rattle.std.specs.Fmt.{decimal}
use Rattle.art_engine.proofs.lines.read_bytes.Given as goal

-- the bytes so far are those of the parts so far
abbrev pub invariant-loop-digits : goal.invariant-loop-digits
invariant-loop-digits l = map (λ digits. digits.now) l.yielded ≡ map decimal l.key.items
