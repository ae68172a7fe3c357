use Rattle.std.proofs.lemmas.Result.{err_from_is_err_and}
use Rattle.art_snapshots.specs.MapEntries.{entries_of}
use Rattle.art_snapshots.proofs.Pairs.{each_entry}
use Rattle.art_snapshots.proofs.maps.read_map.Goals as goal

pub returns-in_err-read_snapshot-clause-reads_back : goal.returns-in_err-read_snapshot-clause-reads_back
returns-in_err-read_snapshot-clause-reads_back g c = λ pairs keys stored e.
    let p = err_from_is_err_and c.from_residual.result c.from_residual.ensures.1 in
    rw (p.1, p.2) (c.in_err-read_snapshot.ensures.reads_back (entries_of g.K.AsBytes.bytes g.V.SnapshotValue.value_bytes pairs) stored
    (each_entry g.K.AsBytes.bytes g.V.SnapshotValue.value_bytes g.K.NoPrefixesBytes.is_key pairs keys) e)

pub returns-clause-reads_back : goal.returns-clause-reads_back
returns-clause-reads_back g c = λ pairs keys stored e.
    rw c.finish.ensures (c.in_ok-read_snapshot.ensures.reads_back (entries_of g.K.AsBytes.bytes g.V.SnapshotValue.value_bytes pairs) stored
    (each_entry g.K.AsBytes.bytes g.V.SnapshotValue.value_bytes g.K.NoPrefixesBytes.is_key pairs keys) e)

pub returns-in_err-read_snapshot-clause-fault : goal.returns-in_err-read_snapshot-clause-fault
returns-in_err-read_snapshot-clause-fault g c =
    let p = err_from_is_err_and c.from_residual.result c.from_residual.ensures.1 in
    rw (p.1, p.2) c.in_err-read_snapshot.ensures.fault

pub returns-clause-read : goal.returns-clause-read
returns-clause-read g c = rw c.finish.ensures c.in_ok-read_snapshot.ensures.read
