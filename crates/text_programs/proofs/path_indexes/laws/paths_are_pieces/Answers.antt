use Rattle.text_programs.proofs.PathPieceLemmas.{paths_are_pieces}
use Rattle.text_programs.proofs.path_indexes.laws.paths_are_pieces.Goals as goal

pub returns : goal.returns
returns c = paths_are_pieces
