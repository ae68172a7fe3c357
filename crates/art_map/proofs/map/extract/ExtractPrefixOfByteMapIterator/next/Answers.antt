use Rattle.std.proofs.Common.{refl}
use Rattle.art_model.specs.Prelude.{is_front, of_key}
use Rattle.art_map.proofs.Extracted.{extracts_below, step_goes}
use Rattle.art_map.proofs.map.extract.ExtractPrefixOfByteMapIterator.next.Goals as goal

pub returns-clause-steps : goal.returns-clause-steps
returns-clause-steps g c =
    let took = c.pop_first_below.ensures in
    let s = c.args.self.now in (
      refl,
      refl,
      extracts_below (of_key g.K.AsBytes.bytes)
          s.prefix.now s.map.now c.pop_first_below.new.self c.pop_first_below.result took.was_sorted took.removed took.pairs,
    )

pub returns-clause-goes : goal.returns-clause-goes
returns-clause-goes g c =
    let B = of_key g.K.AsBytes.bytes in
    let took = c.pop_first_below.ensures in
    let s = c.args.self.now in
    step_goes B (λ x. is_front s.prefix.now (B x)) (λ q. q.map.now) s c.pop_first_below.result _
    (extracts_below B s.prefix.now s.map.now c.pop_first_below.new.self c.pop_first_below.result took.was_sorted took.removed took.pairs)
