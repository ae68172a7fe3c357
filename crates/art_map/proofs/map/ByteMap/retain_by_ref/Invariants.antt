use Rattle.std.proofs.Common.{length}
use Rattle.art_model.specs.Prelude.{of_key}
use Rattle.art_map.specs.MapRetain.{pairs_after}
use Rattle.art_map.proofs.Retained.{Retaining}
use Rattle.art_map.proofs.map.ByteMap.retain_by_ref.Given as goal

abbrev pub invariant-loop-pair : goal.invariant-loop-pair
invariant-loop-pair g l = Retaining g.F.FnMut g.K.AsBytes.bytes l.initial.f l.initial.self l.f l.self l.last × goal.F-IsAlwaysCallable g l.f

abbrev pub decreases-loop-pair : goal.decreases-loop-pair
decreases-loop-pair g l = length (pairs_after (of_key g.K.AsBytes.bytes) l.last l.self)
