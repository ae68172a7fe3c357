use Rattle.art_snapshots.proofs.ArrayBytes.{array_read, no_array}
use Rattle.art_snapshots.proofs.values.ArrayU8SnapshotValue.from_snapshot.Goals as goal

pub returns-clause-value : goal.returns-clause-value
returns-clause-value g c = array_read g.row.N c.args.bytes.now c.all_of.result c.all_of.ensures.all c.all_of.ensures.count

pub returns-clause-none : goal.returns-clause-none
returns-clause-none g c = no_array g.row.N c.args.bytes.now c.all_of.result c.all_of.ensures.none
