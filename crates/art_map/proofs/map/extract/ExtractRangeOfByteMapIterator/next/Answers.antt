use Rattle.std.proofs.Common.{refl}
use Rattle.std.specs.Range.Bound.{bound_map}
use Rattle.art_model.specs.Prelude.{of_key, is_between}
use Rattle.art_map.proofs.Extracted.{extracts, step_goes}
use Rattle.art_map.proofs.map.extract.ExtractRangeOfByteMapIterator.next.Goals as goal

pub returns-clause-steps : goal.returns-clause-steps
returns-clause-steps g c =
    let took = c.take_first_in.ensures in
    let s = c.args.self.now in (
      refl,
      refl,
      refl,
      extracts (of_key g.K.AsBytes.bytes) (is_between (bound_map (λ b. b.now) s.from) (bound_map (λ b. b.now) s.to))
          s.map.now c.take_first_in.new.self c.take_first_in.result took.sorted took.removed took.pairs,
    )

pub returns-clause-goes : goal.returns-clause-goes
returns-clause-goes g c =
    let B = of_key g.K.AsBytes.bytes in
    let took = c.take_first_in.ensures in
    let s = c.args.self.now in
    let test = is_between (bound_map (λ b. b.now) s.from) (bound_map (λ b. b.now) s.to) in
    step_goes B (λ x. test (B x)) (λ q. q.map.now) s c.take_first_in.result _
    (extracts B test s.map.now c.take_first_in.new.self c.take_first_in.result took.sorted took.removed took.pairs)
