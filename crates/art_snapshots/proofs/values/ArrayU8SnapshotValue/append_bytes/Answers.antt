use Rattle.std.proofs.Common.{sym}
use Rattle.art_snapshots.proofs.ArrayBytes.{appended, own_bytes}
use Rattle.art_snapshots.proofs.values.ArrayU8SnapshotValue.append_bytes.Goals as goal

pub returns : goal.returns
returns g c =
    appended c.args.out.now.items c.extend_from_slice.new.self.items c.args.self.now _ c.extend_from_slice.result (sym (own_bytes g.row.N c.args.self.now c.told-self)) c.extend_from_slice.ensures.items
