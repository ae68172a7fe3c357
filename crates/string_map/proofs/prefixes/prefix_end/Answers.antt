use Rattle.std.proofs.Common.{refl}
use Rattle.string_map.proofs.PrefixEnds.{has_end, has_no_end}
use Rattle.string_map.proofs.prefixes.prefix_end.Goals as goal

pub returns-then-len-eq0-clause-end : goal.returns-then-len-eq0-clause-end
returns-then-len-eq0-clause-end c = has_no_end c.args.prefix.now c.args.prefix.now c.loop-len.len c.if-len-eq0.true c.loop-len.invariant.1

pub returns-clause-end : goal.returns-clause-end
returns-clause-end c = has_end c.args.prefix.now c.loop-len.len _ _ c.if-len-eq0.false c.loop-len.invariant.0 c.loop-len.invariant.1 refl
