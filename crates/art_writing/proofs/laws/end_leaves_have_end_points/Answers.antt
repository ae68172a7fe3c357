use Rattle.art_writing.proofs.EndsAgree.{first_leaf_has_first_point, last_leaf_has_last_point}
use Rattle.art_writing.proofs.laws.end_leaves_have_end_points.Goals as goal

pub returns-clause-first : goal.returns-clause-first
returns-clause-first g c = first_leaf_has_first_point

pub returns-clause-last : goal.returns-clause-last
returns-clause-last g c = last_leaf_has_last_point
