use Rattle.std.proofs.Common.{◌≡◌, ◌≤◌, drop, length}
use Rattle.std.specs.List.{AllByRecursion as Each}
use Rattle.string_map.proofs.prefixes.prefix_end.Given as goal

-- each byte from here on is 255
abbrev pub invariant-loop-len : goal.invariant-loop-len
invariant-loop-len l = (l.len ≤ length l.prefix) × Each (λ byte. byte ≡ 255) (drop l.len l.prefix)

abbrev pub decreases-loop-len : goal.decreases-loop-len
decreases-loop-len l = l.len
