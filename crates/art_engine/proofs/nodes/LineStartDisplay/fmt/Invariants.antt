use Rattle.std.specs.Fmt.{HasWritten, IsPlainFormatter}
use Rattle.art_engine.specs.NodeLines.{indent}
use Rattle.art_engine.proofs.nodes.LineStartDisplay.fmt.Given as goal

-- two spaces are written for each turn so far
abbrev pub invariant-loop : goal.invariant-loop
invariant-loop g l = IsPlainFormatter l.initial.f → HasWritten g.W.Write.write_str_gives l.initial.f (indent l.counter) l.f
