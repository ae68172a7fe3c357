use Rattle.text_programs.proofs.PathSnapshotLemmas.{snapshot_written}
use Rattle.text_programs.proofs.path_indexes.saving.save_index.Goals as goal

pub returns : goal.returns
returns g c =
    snapshot_written c.args.index.now (g.W.Write.contents c.args.output.now) (g.W.Write.contents c.write_map.new.output) c.as_byte_map.ensures.keys
    c.in_ok-write_map.ensures.storable c.in_ok-write_map.ensures.written
