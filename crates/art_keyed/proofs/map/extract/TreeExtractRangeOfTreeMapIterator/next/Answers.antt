use Rattle.std.proofs.Common.{◌&&◌, refl, ap₂, subst}
use Rattle.std.specs.Range.Bound.{bound_map}
use Rattle.std.specs.declared.ops.Bound.{Bound}
use Rattle.art_model.specs.Pairs.{of_key}
use Rattle.art_map.specs.MapExtract.{ExtractsFirst}
use Rattle.art_map.proofs.Extracted.{step_goes}
use Rattle.art_keyed.specs.KeyedPairs.{is_key_from, is_key_up_to}
use Rattle.art_keyed.proofs.map.extract.TreeExtractRangeOfTreeMapIterator.next.Goals as goal

pub returns-clause-steps : goal.returns-clause-steps
returns-clause-steps g c =
    let order = g.K.OrderedBytes.order in (
      refl,
      refl,
      λ has.
          subst (λ (ends : Bound g.row.K.Denot × Bound g.row.K.Denot). ExtractsFirst (of_key g.K.AsBytes.bytes)
          (λ x. is_key_from order ends.0 x.0 && is_key_up_to order ends.1 x.0) c.args.self.now.map.now c.extract_in.result c.extract_in.new.self)
          (ap₂ (λ a b. (a, b)) (c.start_bound.ensures has) (c.end_bound.ensures has)) c.extract_in.ensures,
    )

pub returns-clause-goes : goal.returns-clause-goes
returns-clause-goes g c =
    let order = g.K.OrderedBytes.order in
    step_goes (of_key g.K.AsBytes.bytes)
    (λ x. is_key_from order (bound_map (λ b. b.now) c.start_bound.result) x.0 && is_key_up_to order (bound_map (λ b. b.now) c.end_bound.result) x.0)
    (λ q. q.map.now) c.args.self.now c.extract_in.result _ c.extract_in.ensures
