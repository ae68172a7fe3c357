use Rattle.std.proofs.Common.{not, ap}
use Rattle.art_sets.specs.SetAlgebra.{has_equal}
use Rattle.art_model.specs.Prelude.{has_key}
use Rattle.art_sets.proofs.SetMembers.{filtered, merged, parted, same_member}
use Rattle.art_sets.proofs.laws.keys_of_two_sets.Goals as goal

pub returns-clause-union : goal.returns-clause-union
returns-clause-union g c keys others key = merged g.K.AsBytes.bytes key keys others

pub returns-clause-intersection : goal.returns-clause-intersection
returns-clause-intersection g c keys others key =
    filtered g.K.AsBytes.bytes key (has_equal g.K.AsBytes.bytes others) (has_key g.K.AsBytes.bytes key others)
    (λ x same. same_member g.K.AsBytes.bytes key others x same) keys

pub returns-clause-difference : goal.returns-clause-difference
returns-clause-difference g c keys others key =
    filtered g.K.AsBytes.bytes key (λ x. not (has_equal g.K.AsBytes.bytes others x)) (not (has_key g.K.AsBytes.bytes key others))
    (λ x same. ap not (same_member g.K.AsBytes.bytes key others x same)) keys

pub returns-clause-symmetric_difference : goal.returns-clause-symmetric_difference
returns-clause-symmetric_difference g c keys others is are key = parted g.K.AsBytes.bytes key keys others is are
