use Rattle.std.proofs.Common.{ap, ◌∙◌, option_map}
use Rattle.std.specs.Range.Bound.{bound_map}
use Rattle.std.specs.declared.ops.Bound.TheVariants.{Unbounded}
use Rattle.art_model.specs.Prelude.{last_of, of_key, between, is_up_to}
use Rattle.art_iterating.specs.MapItems.{deref_pair}
use Rattle.art_changing.proofs.MapPuts.{at_some}
use Rattle.art_iterating.proofs.Ranges.{last_pair, no_last_pair}
use Rattle.art_map.proofs.map.ByteMap.last_up_to.Goals as goal

pub returns-in_err-leaf : goal.returns-in_err-leaf
returns-in_err-leaf g c =
    let has = at_some c.in_ok-self.was c.self.invariant in
    ap (option_map deref_pair) c.from_residual-in_err-leaf.ensures
    ∙ no_last_pair has.by (λ x. is_up_to (bound_map (λ b. b.now) c.args.to) (g.K.AsBytes.bytes x.0)) (c.in_err-leaf.ensures.leaf _ has.layout has.by)
    ∙ ap (λ pairs. last_of (between (of_key g.K.AsBytes.bytes) Unbounded (bound_map (λ b. b.now) c.args.to) pairs)) c.self.view_is

pub returns : goal.returns
returns g c =
    let has = at_some c.in_ok-self.was c.self.invariant in
    last_pair has.by (λ x. is_up_to (bound_map (λ b. b.now) c.args.to) (g.K.AsBytes.bytes x.0))
    (c.in_ok-leaf.ensures.leaf _ has.layout has.by) c.pair_at.ensures
    ∙ ap (λ pairs. last_of (between (of_key g.K.AsBytes.bytes) Unbounded (bound_map (λ b. b.now) c.args.to) pairs)) c.self.view_is
