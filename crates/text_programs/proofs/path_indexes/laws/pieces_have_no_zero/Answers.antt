use Rattle.text_programs.proofs.PathPieceLemmas.{pieces_have_no_zero}
use Rattle.text_programs.proofs.path_indexes.laws.pieces_have_no_zero.Goals as goal

pub returns : goal.returns
returns c = pieces_have_no_zero
