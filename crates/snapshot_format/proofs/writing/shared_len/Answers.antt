use Rattle.std.proofs.Common.{sym, ◌∙◌, arith}
use Rattle.snapshot_format.proofs.WrittenNumbers.{shared_more, shared_stops, first_ends, second_ends}
use Rattle.snapshot_format.proofs.writing.shared_len.Goals as goal

pub returns-then-key-shared-clause-shared : goal.returns-then-key-shared-clause-shared
returns-then-key-shared-clause-shared c =
    sym (shared_stops c.args.key.now c.args.other.now c.loop-shared.shared (omega arith) (omega arith) c.if-key-shared.true) ∙ c.loop-shared.invariant.0

pub loop-shared-preserved : goal.loop-shared-preserved
loop-shared-preserved c =
    (sym (shared_more c.args.key.now c.args.other.now c.loop-shared.shared (omega arith) (omega arith) c.if-key-shared.false) ∙ c.loop-shared.invariant.0, omega arith, omega arith)

pub returns-else-shared-other-clause-shared : goal.returns-else-shared-other-clause-shared
returns-else-shared-other-clause-shared c = sym (second_ends c.args.key.now c.args.other.now c.loop-shared.shared (omega arith)) ∙ c.loop-shared.invariant.0

pub returns-after-loop-shared-clause-shared : goal.returns-after-loop-shared-clause-shared
returns-after-loop-shared-clause-shared c = sym (first_ends c.args.key.now c.args.other.now c.loop-shared.shared (omega arith)) ∙ c.loop-shared.invariant.0
