use Rattle.std.proofs.Common.{◌≡◌, [], subst, sym}
use Rattle.std.proofs.lemmas.Result.{on_ok_weaker}
use Rattle.snapshot_format.specs.Snapshots.{IsRising, IsStorable}
use Rattle.art_snapshots.specs.MapEntries.{key_entries}
use Rattle.art_snapshots.proofs.Rising.{entries_rise}
use Rattle.art_snapshots.proofs.sets.write_set.Goals as goal

pub returns-clause-storable : goal.returns-clause-storable
returns-clause-storable g c =
    let entries = key_entries g.K.AsBytes.bytes in
    let same : c.iter.result ≡ c.args.set.now = c.iter.ensures.keys in
    let rise : IsRising (entries c.args.set.now) = entries_rise g.K.AsBytes.bytes (λ key. []) c.args.set.now c.iter.ensures.sorted in
    on_ok_weaker c.write_snapshot.result
    (λ storable. subst (λ keys. IsStorable (entries keys)) same (storable (subst (λ keys. IsRising (entries keys)) (sym same) rise)))
    c.write_snapshot.ensures.storable
