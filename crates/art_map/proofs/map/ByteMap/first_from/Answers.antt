use Rattle.std.proofs.Common.{filter, ap, ◌∙◌, option_map}
use Rattle.std.specs.Range.Bound.{bound_map}
use Rattle.std.specs.declared.ops.Bound.TheVariants.{Unbounded}
use Rattle.art_model.specs.Prelude.{first_of, of_key, between, is_from}
use Rattle.art_iterating.specs.MapItems.{deref_pair}
use Rattle.art_changing.specs.MapPairs.{pairs_at}
use Rattle.art_changing.proofs.MapPuts.{at_some}
use Rattle.art_iterating.proofs.Ranges.{also_true, first_pair, no_first_pair}
use Rattle.art_map.proofs.map.ByteMap.first_from.Goals as goal

pub returns-in_err-leaf-clause-pair : goal.returns-in_err-leaf-clause-pair
returns-in_err-leaf-clause-pair g c =
    let has = at_some c.in_ok-self.was c.self.invariant in
    ap (option_map deref_pair) c.from_residual-in_err-leaf.ensures
    ∙ no_first_pair has.by (λ x. is_from (bound_map (λ b. b.now) c.args.from) (g.K.AsBytes.bytes x.0)) (c.in_err-leaf.ensures.leaf _ has.layout has.by)
    ∙ ap (λ test. first_of (filter test (pairs_at c.self.inside.store c.self.inside.root)))
    (λ i x. also_true (is_from (bound_map (λ b. b.now) c.args.from) (g.K.AsBytes.bytes x.0)) i)
    ∙ ap (λ pairs. first_of (between (of_key g.K.AsBytes.bytes) (bound_map (λ b. b.now) c.args.from) Unbounded pairs)) c.self.view_is

pub returns-clause-pair : goal.returns-clause-pair
returns-clause-pair g c =
    let has = at_some c.in_ok-self.was c.self.invariant in
    first_pair has.by (λ x. is_from (bound_map (λ b. b.now) c.args.from) (g.K.AsBytes.bytes x.0))
    (c.in_ok-leaf.ensures.leaf _ has.layout has.by) c.pair_at.ensures
    ∙ ap (λ test. first_of (filter test (pairs_at c.self.inside.store c.self.inside.root)))
    (λ i x. also_true (is_from (bound_map (λ b. b.now) c.args.from) (g.K.AsBytes.bytes x.0)) i)
    ∙ ap (λ pairs. first_of (between (of_key g.K.AsBytes.bytes) (bound_map (λ b. b.now) c.args.from) Unbounded pairs)) c.self.view_is
