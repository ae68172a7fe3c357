use Rattle.std.proofs.Common.{ap, refl, rules, subst, sym, ◌∙◌}
use Rattle.std.specs.Range.Bound.{bound_map}
use Rattle.art_model.specs.Prelude.{of_key, between, is_between}
use Rattle.art_map.specs.MapCalls.{ChangesPairs}
use Rattle.art_changing.specs.MapPairs.{pairs_at}
use Rattle.art_map.specs.MapParts.{not_between}
use Rattle.art_changing.proofs.Items.{no_pairs}
use Rattle.art_changing.proofs.MapPuts.{at_some}
use Rattle.art_iterating.proofs.Ranges.{range_pairs, range_there}
use Rattle.art_map.proofs.map.ByteMap.for_each_mut_in.Goals as goal

pub returns-in_default-clause-pairs : goal.returns-in_default-clause-pairs
returns-in_default-clause-pairs g c =
    let B = of_key g.K.AsBytes.bytes in
    let those = between B (bound_map (λ b. b.now) c.args.from) (bound_map (λ b. b.now) c.args.to) in
    subst (λ pairs. ChangesPairs g.F.FnMut c.args.f.now (those pairs) (those pairs) c.args.f.now)
    (sym (no_pairs B g.row.P c.self.inside.store c.in_default.is c.self.invariant) ∙ c.self.view_is) (refl, refl)

pub change_pairs-requires : goal.change_pairs-requires
change_pairs-requires g c =
    let has = at_some c.in-Some.is c.self.invariant in (
      search rules,
      (
        c.requires,
        (
          c.self.invariant,
          range_there has.by (λ x. is_between (bound_map (λ b. b.now) c.args.from) (bound_map (λ b. b.now) c.args.to) (g.K.AsBytes.bytes x.0))
              (c.range_unchecked-walk.ensures _ has.layout has.by) has.len_is,
        ),
      ),
    )

pub returns-clause-pairs : goal.returns-clause-pairs
returns-clause-pairs g c =
    let has = at_some c.in-Some.is c.self.invariant in
    let new = c.change_pairs.new in
    let test = is_between (bound_map (λ b. b.now) c.args.from) (bound_map (λ b. b.now) c.args.to) in
    let those = between (of_key g.K.AsBytes.bytes) (bound_map (λ b. b.now) c.args.from) (bound_map (λ b. b.now) c.args.to) in
    let first = range_pairs has.by (λ x. test (g.K.AsBytes.bytes x.0)) (c.range_unchecked-walk.ensures _ has.layout has.by) has.len_is in
    subst (λ pairs. ChangesPairs g.F.FnMut c.args.f.now (those pairs) (those (pairs_at new.store c.self.inside.root)) new.f) c.self.view_is
    (c.change_pairs.ensures.changed.those test first).0

pub returns-clause-others : goal.returns-clause-others
returns-clause-others g c =
    let has = at_some c.in-Some.is c.self.invariant in
    let test = is_between (bound_map (λ b. b.now) c.args.from) (bound_map (λ b. b.now) c.args.to) in
    let first = range_pairs has.by (λ x. test (g.K.AsBytes.bytes x.0)) (c.range_unchecked-walk.ensures _ has.layout has.by) has.len_is in
    (c.change_pairs.ensures.changed.those test first).1
    ∙ ap (not_between (of_key g.K.AsBytes.bytes) (bound_map (λ b. b.now) c.args.from) (bound_map (λ b. b.now) c.args.to)) c.self.view_is
