use Rattle.std.proofs.Common.{arith}
use Rattle.art_keys.specs.Numbers.{HasBytes}
use Rattle.art_keys.specs.NumberLaws.{number_back, number_is}
use Rattle.art_keys.proofs.unsigned.Unsigned16FromU128.from.Goals as goal

pub invariant_of-result : goal.invariant_of-result
invariant_of-result c = let small : HasBytes 16 c.args.n = omega arith in rw c.to_be_bytes.ensures (number_is 16 c.args.n small)

pub returns : goal.returns
returns c = let small : HasBytes 16 c.args.n = omega arith in rw c.to_be_bytes.ensures (number_back 16 c.args.n small)
