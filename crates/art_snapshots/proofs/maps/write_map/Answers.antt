use Rattle.std.proofs.Common.{◌≡◌, subst, sym}
use Rattle.std.proofs.lemmas.Result.{on_ok_weaker}
use Rattle.art_model.specs.Pairs.{of_key}
use Rattle.snapshot_format.specs.Snapshots.{IsRising, IsStorable}
use Rattle.art_snapshots.specs.MapEntries.{entries_of}
use Rattle.art_snapshots.proofs.Rising.{entries_rise}
use Rattle.art_snapshots.proofs.maps.write_map.Goals as goal

pub returns-clause-storable : goal.returns-clause-storable
returns-clause-storable g c =
    let entries = entries_of g.K.AsBytes.bytes g.V.SnapshotValue.value_bytes in
    let same : c.iter.result ≡ c.args.map.now = c.iter.ensures.pairs in
    let rise : IsRising (entries c.args.map.now) =
    entries_rise (of_key g.K.AsBytes.bytes) (λ pair. g.V.SnapshotValue.value_bytes pair.1) c.args.map.now c.iter.ensures.sorted in
    on_ok_weaker c.write_snapshot.result
    (λ storable. subst (λ pairs. IsStorable (entries pairs)) same (storable (subst (λ pairs. IsRising (entries pairs)) (sym same) rise)))
    c.write_snapshot.ensures.storable
