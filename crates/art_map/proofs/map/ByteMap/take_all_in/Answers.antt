use Rattle.std.proofs.Common.{ap, sym, ◌∙◌}
use Rattle.std.specs.Range.Bound.{bound_map}
use Rattle.art_model.specs.Prelude.{of_key, is_between}
use Rattle.art_map.specs.MapParts.{without}
use Rattle.art_map.proofs.FirstOut.{all_gone, counted, fewer, some_goes}
use Rattle.art_map.proofs.map.ByteMap.take_all_in.Goals as goal

pub loop-pair-smaller : goal.loop-pair-smaller
loop-pair-smaller g c =
    let B = of_key g.K.AsBytes.bytes in
    let test = is_between (bound_map (λ b. b.now) c.args.from) (bound_map (λ b. b.now) c.args.to) in
    let took = c.take_first_in.ensures in
    rw (took.pairs, c.in-Some.is) (fewer B test c.args.self.now c.loop-pair.self took.sorted c.loop-pair.invariant c.in-Some.pair
    (sym c.in-Some.is ∙ took.removed))

pub loop-pair-preserved : goal.loop-pair-preserved
loop-pair-preserved g c =
    let B = of_key g.K.AsBytes.bytes in
    let test = is_between (bound_map (λ b. b.now) c.args.from) (bound_map (λ b. b.now) c.args.to) in
    let took = c.take_first_in.ensures in
    rw (took.pairs, c.in-Some.is) (some_goes B test c.args.self.now c.loop-pair.self took.sorted c.loop-pair.invariant c.in-Some.pair
    (sym c.in-Some.is ∙ took.removed))

pub overflow_sub-result : goal.overflow_sub-result
overflow_sub-result g c =
    let B = of_key g.K.AsBytes.bytes in
    let test = is_between (bound_map (λ b. b.now) c.args.from) (bound_map (λ b. b.now) c.args.to) in
    let took = c.take_first_in.ensures in
    rw (c.len.ensures.len, c.len-before.ensures.len, took.pairs, c.in_default.is)
    (counted B test c.args.self.now c.loop-pair.self c.loop-pair.invariant (sym c.in_default.is ∙ took.removed)).0

pub returns-clause-pairs : goal.returns-clause-pairs
returns-clause-pairs g c =
    let B = of_key g.K.AsBytes.bytes in
    let test = is_between (bound_map (λ b. b.now) c.args.from) (bound_map (λ b. b.now) c.args.to) in
    let took = c.take_first_in.ensures in
    took.pairs ∙ ap (λ o. without B o c.loop-pair.self) c.in_default.is
    ∙ all_gone B test c.args.self.now c.loop-pair.self c.loop-pair.invariant (sym c.in_default.is ∙ took.removed)

pub returns-clause-removed : goal.returns-clause-removed
returns-clause-removed g c =
    let B = of_key g.K.AsBytes.bytes in
    let test = is_between (bound_map (λ b. b.now) c.args.from) (bound_map (λ b. b.now) c.args.to) in
    let took = c.take_first_in.ensures in
    rw (c.len.ensures.len, c.len-before.ensures.len, took.pairs, c.in_default.is)
    (counted B test c.args.self.now c.loop-pair.self c.loop-pair.invariant (sym c.in_default.is ∙ took.removed)).1
