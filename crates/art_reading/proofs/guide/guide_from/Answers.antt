use Rattle.std.proofs.Common.{arith, subst}
use Rattle.art_model.specs.Prelude.{of_key}
use Rattle.art_reading.specs.Guides.{MayGuide}
use Rattle.art_reading.proofs.guide.guide_from.Goals as goal

pub returns-in-Some-clause-guide : goal.returns-in-Some-clause-guide
returns-in-Some-clause-guide g c pairs layout by =
    subst (MayGuide (of_key g.K.AsBytes.bytes) (g.B.KeyBytes.key c.args.key_bytes.now) layout) c.in-Some.is (c.requires.known pairs layout by)

pub returns-in-Some-clause-visits : goal.returns-in-Some-clause-visits
returns-in-Some-clause-visits g c = record { number = 0; counted = omega arith; is_number = rw c.in-Some.is (omega arith) }

pub returns-in-None-clause-visits : goal.returns-in-None-clause-visits
returns-in-None-clause-visits g c = record { number = c.find_guide-more.result.1; counted = c.add.ensures; is_number = rw c.in-None.is (omega arith) }
