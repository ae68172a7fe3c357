use Rattle.std.proofs.Common.{◌-◌, length}
use Rattle.string_map.specs.Given.{in_direction}
use Rattle.string_map.proofs.Fills.{IsFilling}
use Rattle.string_map.proofs.pairs.fill.Given as goal

abbrev pub invariant-loop-count : goal.invariant-loop-count
invariant-loop-count l = IsFilling (in_direction l.is_backward l.initial.left) (in_direction l.is_backward l.left) l.count l.end l.buffer l.initial.pairs l.pairs

abbrev pub decreases-loop-count : goal.decreases-loop-count
decreases-loop-count l = length l.pairs - l.count
