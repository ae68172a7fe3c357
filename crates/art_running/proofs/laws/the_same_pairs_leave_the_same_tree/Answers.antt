use Rattle.art_running.proofs.SameTrees.{same_pairs_same_tree}
use Rattle.art_running.proofs.laws.the_same_pairs_leave_the_same_tree.Goals as goal

pub returns : goal.returns
returns g c from commands replies to start others answers end one other same =
    same_pairs_same_tree g.K.AsBytes.bytes g.row.P one.end.present other.end.present one.end.tree other.end.tree one.end_sound other.end_sound same
