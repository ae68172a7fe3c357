use Rattle.std.proofs.Common.{◌≡◌, of_calls, refl, rules, subst, sym}
use Rattle.std.specs.Fn.{CalledAtMut, always_mut}
use Rattle.art_map.specs.MapCalls.{ChangesEach}
use Rattle.art_map.proofs.Changed.{changes_hold, changes_inside}
use Rattle.art_map.proofs.map.ByteMap.for_each_value_by_ref.Goals as goal
use denote.Param.Always.{mut_by}

pub for_each_mut_by_ref-requires : goal.for_each_mut_by_ref-requires
for_each_mut_by_ref-requires g c =
    (search rules, mut_by _ (λ s. always_mut g.F.FnMut s.0.now) (λ s a i. search of_calls) (λ s a r t i e. search of_calls) _ c.requires)

pub returns-clause-values : goal.returns-clause-values
returns-clause-values g c =
    let new = c.for_each_mut_by_ref.new in
    let name =
    changes_hold _ (λ s. c.for_each_mut_by_ref-arg-2-1.given ≡ s.0.ghost_name)
    (λ s x t w a same. search (rules, same)) _ c.args.self.now new.self new.f
    c.for_each_mut_by_ref.ensures.pairs refl in
    let inside = changes_inside _ (λ f x next value. CalledAtMut g.F.FnMut f x.1 tt next value) (λ s. s.0.now) (λ s x t w a.
    let called = a.called in
    let is : CalledAtMut g.F.FnMut s.0.now a.value_shown.now tt t.0.now a.left.now = search rules in
    subst (λ v. CalledAtMut g.F.FnMut s.0.now v tt t.0.now w) a.shows.1 (subst (λ v. CalledAtMut g.F.FnMut s.0.now a.value_shown.now tt t.0.now v) a.leaves is))
    _ c.args.self.now new.self new.f c.for_each_mut_by_ref.ensures.pairs in
    subst (ChangesEach g.F.FnMut c.args.f.now c.args.self.now new.self) (sym (c.f-1.given.1 name)) inside

pub returns-clause-callable : goal.returns-clause-callable
returns-clause-callable g c =
    let new = c.for_each_mut_by_ref.new in
    let name =
    changes_hold _ (λ s. c.for_each_mut_by_ref-arg-2-1.given ≡ s.0.ghost_name)
    (λ s x t w a same. search (rules, same)) _ c.args.self.now new.self new.f
    c.for_each_mut_by_ref.ensures.pairs refl in
    let good = changes_hold _ (λ s. always_mut g.F.FnMut s.0.now)
    (λ s x t w a was. search rules) _ c.args.self.now new.self new.f c.for_each_mut_by_ref.ensures.pairs c.requires in
    subst (always_mut g.F.FnMut) (sym (c.f-1.given.1 name)) good
