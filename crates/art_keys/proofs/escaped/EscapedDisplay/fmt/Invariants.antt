use Rattle.std.proofs.Common.{length}
use Rattle.art_keys.proofs.escaped.EscapedDisplay.fmt.Given as goal

abbrev pub decreases-loop-plain : goal.decreases-loop-plain
decreases-loop-plain g l = length l.rest
