use Rattle.std.proofs.Common.{subst}
use Rattle.art_map.specs.MapRetain.{TakesRefused}
use Rattle.art_map.proofs.Retained.{ends, fewer, goes_on}
use Rattle.art_map.proofs.map.ByteMap.retain_by_ref.Goals as goal

pub loop-pair-smaller : goal.loop-pair-smaller
loop-pair-smaller g c =
    let taken = subst (λ r. TakesRefused g.F.FnMut g.K.AsBytes.bytes c.loop-pair.last c.loop-pair.f c.loop-pair.self r c.take_refused.new.f
    c.take_refused.new.self) c.in-Some.is
    c.take_refused.ensures.taken in
    fewer g.F.FnMut g.K.AsBytes.bytes c.args.f.now c.args.self.now c.loop-pair.invariant.0 taken

pub loop-pair-preserved : goal.loop-pair-preserved
loop-pair-preserved g c =
    let taken = subst (λ r. TakesRefused g.F.FnMut g.K.AsBytes.bytes c.loop-pair.last c.loop-pair.f c.loop-pair.self r c.take_refused.new.f
    c.take_refused.new.self) c.in-Some.is
    c.take_refused.ensures.taken in
    (goes_on g.F.FnMut g.K.AsBytes.bytes c.args.f.now c.args.self.now c.loop-pair.invariant.0 taken, c.take_refused.ensures.callable)

pub returns-clause-pairs : goal.returns-clause-pairs
returns-clause-pairs g c =
    let taken = subst (λ r. TakesRefused g.F.FnMut g.K.AsBytes.bytes c.loop-pair.last c.loop-pair.f c.loop-pair.self r c.take_refused.new.f
    c.take_refused.new.self) c.in_default.is
    c.take_refused.ensures.taken in
    ends g.F.FnMut g.K.AsBytes.bytes c.args.f.now c.args.self.now c.loop-pair.invariant.0 c.take_refused.new.f c.take_refused.new.self taken
