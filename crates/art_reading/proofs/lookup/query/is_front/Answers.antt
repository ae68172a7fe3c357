use Rattle.std.proofs.Common.{arith}
use Rattle.art_reading.proofs.Endings.{after_end}
use Rattle.art_reading.proofs.lookup.query.is_front.Goals as goal

pub returns-then-from-text : goal.returns-then-from-text
returns-then-from-text c =
    after_end c.args.behavior c.args.depth c.first_compared-from.result c.args.key.now c.args.text.now c.args.end
    c.first_compared-from.ensures.compared c.first_compared-from.ensures.passed_over (omega arith) (omega arith)
