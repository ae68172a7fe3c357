use Rattle.std.proofs.Common.{ap, refl, rules, subst, sym, ◌∙◌}
use Rattle.art_model.specs.Prelude.{is_front, of_key, below, not_below}
use Rattle.art_map.specs.MapCalls.{ChangesPairs}
use Rattle.art_changing.specs.MapPairs.{pairs_at}
use Rattle.art_changing.proofs.Items.{no_pairs}
use Rattle.art_changing.proofs.MapPuts.{at_some}
use Rattle.art_iterating.proofs.Ranges.{range_pairs, range_there}
use Rattle.art_map.proofs.map.ByteMap.for_each_mut_below.Goals as goal

pub returns-in_default-clause-pairs : goal.returns-in_default-clause-pairs
returns-in_default-clause-pairs g c =
    let B = of_key g.K.AsBytes.bytes in
    subst (λ pairs. ChangesPairs g.F.FnMut c.args.f.now (below B c.args.prefix.now pairs) (below B c.args.prefix.now pairs) c.args.f.now)
    (sym (no_pairs B g.row.P c.self.inside.store c.in_default.is c.self.invariant) ∙ c.self.view_is) (refl, refl)

pub change_pairs-requires : goal.change_pairs-requires
change_pairs-requires g c =
    let has = at_some c.in-Some.is c.self.invariant in (
      search rules,
      (
        c.requires,
        (
          c.self.invariant,
          range_there has.by (λ x. is_front c.args.prefix.now (g.K.AsBytes.bytes x.0)) (c.prefix_unchecked-walk.ensures _ has.layout has.by) has.len_is,
        ),
      ),
    )

pub returns-clause-pairs : goal.returns-clause-pairs
returns-clause-pairs g c =
    let has = at_some c.in-Some.is c.self.invariant in
    let new = c.change_pairs.new in
    let those = below (of_key g.K.AsBytes.bytes) c.args.prefix.now in
    let first = range_pairs has.by (λ x. is_front c.args.prefix.now (g.K.AsBytes.bytes x.0)) (c.prefix_unchecked-walk.ensures _ has.layout has.by) has.len_is in
    subst (λ pairs. ChangesPairs g.F.FnMut c.args.f.now (those pairs) (those (pairs_at new.store c.self.inside.root)) new.f) c.self.view_is
    (c.change_pairs.ensures.changed.those (is_front c.args.prefix.now) first).0

pub returns-clause-others : goal.returns-clause-others
returns-clause-others g c =
    let has = at_some c.in-Some.is c.self.invariant in
    let first = range_pairs has.by (λ x. is_front c.args.prefix.now (g.K.AsBytes.bytes x.0)) (c.prefix_unchecked-walk.ensures _ has.layout has.by) has.len_is in
    (c.change_pairs.ensures.changed.those (is_front c.args.prefix.now) first).1 ∙ ap (not_below (of_key g.K.AsBytes.bytes) c.args.prefix.now) c.self.view_is
