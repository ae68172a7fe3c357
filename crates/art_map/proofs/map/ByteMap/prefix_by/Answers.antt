use Rattle.std.proofs.Common.{ap, sym, ◌∙◌}
use Rattle.art_model.specs.Prelude.{is_front, of_key, below}
use Rattle.art_iterating.specs.MapItems.{pairs_between}
use Rattle.art_changing.proofs.Items.{no_pairs}
use Rattle.art_changing.proofs.MapPuts.{at_some}
use Rattle.art_iterating.proofs.Ranges.{no_range, range_pairs, range_there}
use Rattle.art_map.proofs.map.ByteMap.prefix_by.Goals as goal

pub returns-in_default-clause-pairs : goal.returns-in_default-clause-pairs
returns-in_default-clause-pairs g c =
    let B = of_key g.K.AsBytes.bytes in
    c.new.ensures.pairs ∙ ap (λ walk. pairs_between c.self.inside.store walk 0) c.empty.ensures ∙ no_range c.self.inside.store 0
    ∙ ap (below B (g.B.KeyBytes.key c.args.prefix)) (sym (no_pairs B g.row.P c.self.inside.store c.in_default.is c.self.invariant) ∙ c.self.view_is)

pub new-requires-2 : goal.new-requires-2
new-requires-2 g c =
    let has = at_some c.in-Some.is c.self.invariant in
    range_there has.by (λ x. is_front (g.B.KeyBytes.key c.args.prefix) (g.K.AsBytes.bytes x.0)) (c.prefix_unchecked-walk.ensures _ has.layout has.by) has.len_is

pub returns-clause-pairs : goal.returns-clause-pairs
returns-clause-pairs g c =
    let has = at_some c.in-Some.is c.self.invariant in
    c.new-2.ensures.pairs ∙ range_pairs has.by (λ x. is_front (g.B.KeyBytes.key c.args.prefix) (g.K.AsBytes.bytes x.0))
    (c.prefix_unchecked-walk.ensures _ has.layout has.by) has.len_is
    ∙ ap (below (of_key g.K.AsBytes.bytes) (g.B.KeyBytes.key c.args.prefix)) c.self.view_is
