use Rattle.std.proofs.lemmas.Result.{on_ok_weaker}
use Rattle.art_operations.specs.MapItems.{keys_of}
use Rattle.text_programs.proofs.path_indexes.saving.PathIndexSavedTable.save.Goals as goal

pub returns : goal.returns
returns g c =
    on_ok_weaker c.save_index.result (λ saved added read. (saved.0, (keys_of c.args.self.now.paths, read, saved.1), saved.2)) c.save_index.ensures
