use Rattle.std.proofs.Common.{sym, subst}
use Rattle.text_programs.specs.Paths.{IsIndexOf, lines_of}
use Rattle.text_programs.proofs.path_indexes.saving.PathIndexSavedTable.load.Goals as goal

pub returns-in-Ok : goal.returns-in-Ok
returns-in-Ok g c = λ added bytes saved left.
    subst (IsIndexOf (lines_of added)) (sym (c.in-Ok.ensures.reads_back saved.0 bytes saved.2 left)) saved.1

pub returns-in-Err : goal.returns-in-Err
returns-in-Err g c = λ added bytes saved left. c.in-Err.ensures.reads_back saved.0 bytes saved.2 left
