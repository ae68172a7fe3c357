use Rattle.std.proofs.Common.{length}
use Rattle.art_keys.proofs.escaped.EscapedDebug.fmt.Given as goal

abbrev pub decreases-loop-byte : goal.decreases-loop-byte
decreases-loop-byte g l = length l.rest
