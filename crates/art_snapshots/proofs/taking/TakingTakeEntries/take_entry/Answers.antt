use Rattle.std.proofs.Common.{◌≡◌}
use Rattle.art_snapshots.proofs.Pairs.{entries_added, some_at}
use Rattle.art_snapshots.proofs.taking.TakingTakeEntries.take_entry.Goals as goal

pub returns-clause-ok : goal.returns-clause-ok
returns-clause-ok g c =
    let bytes = g.K.AsBytes.bytes in
    let value_bytes = g.V.SnapshotValue.value_bytes in
    let key = some_at (λ key. g.K.NoPrefixesBytes.is_key key × (bytes key ≡ c.args.key.now)) c.in-Ok.key c.in-Some.key c.in-Some.is c.in-Ok.ensures.key in
    let value = some_at (λ value. value_bytes value ≡ c.args.value.now) c.in-Ok-from_snapshot.value c.in-Some-value.value c.in-Some-value.is c.in-Ok-from_snapshot.ensures.value in
    entries_added bytes value_bytes c.args.key.now c.args.value.now (c.in-Some.key, c.in-Some-value.value) c.args.self.now.builder _ key.1 value c.in-Ok-push.ensures.pushed
