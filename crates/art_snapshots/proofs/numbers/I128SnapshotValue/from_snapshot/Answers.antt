use Rattle.std.proofs.Common.{arith}
use Rattle.art_snapshots.proofs.WideNumbers.{reads_signed}
use Rattle.art_snapshots.proofs.numbers.I128SnapshotValue.from_snapshot.Goals as goal

pub returns-clause-value : goal.returns-clause-value
returns-clause-value c =
    reads_signed c.args.bytes.now (λ i. omega (arith, c.type_inv.bytes i)) c.all_of.result c.all_of.ensures.all c.all_of.ensures.count c.map.result c.map.ensures.cases
