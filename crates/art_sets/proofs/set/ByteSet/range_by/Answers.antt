use Rattle.std.proofs.Common.{subst}
use Rattle.art_model.specs.Prelude.{IsMap}
use Rattle.art_sets.proofs.SetLaws.{keys_rise}
use Rattle.art_sets.proofs.set.ByteSet.range_by.Goals as goal

pub returns-clause-sorted : goal.returns-clause-sorted
returns-clause-sorted g c = subst (IsMap g.K.AsBytes.bytes) c.self.view_is (keys_rise g.K.AsBytes.bytes c.self.inside.map c.range_by.ensures.sorted)
