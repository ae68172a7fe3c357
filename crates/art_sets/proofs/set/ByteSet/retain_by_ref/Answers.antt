use Rattle.std.proofs.Common.{◌≡◌, refl, of_calls, rules, subst, sym}
use Rattle.std.specs.Fn.{CalledAt, always_mut}
use Rattle.art_iterating.specs.MapItems.{keys_of}
use Rattle.art_map.specs.MapRetain.{Retains}
use Rattle.art_map.proofs.Retained.{keys_retained, retains_hold}
use Rattle.art_sets.proofs.set.ByteSet.retain_by_ref.Goals as goal
use denote.Param.Always.{mut_by}

pub retain_by_ref-requires : goal.retain_by_ref-requires
retain_by_ref-requires g c =
    (search rules, mut_by _ (λ s. always_mut g.F.FnMut s.0.now) (λ s a i. search of_calls) (λ s a r t i e. search of_calls) _ c.requires)

pub returns-clause-keys : goal.returns-clause-keys
returns-clause-keys g c =
    let pairs = c.self.inside.map in
    let new = c.retain_by_ref.new in
    let name = retains_hold _ (λ s. c.retain_by_ref-arg-2-1.given ≡ s.0.ghost_name)
    (λ s x b t w a same. search (rules, same)) _ pairs new.self new.f c.retain_by_ref.ensures.pairs refl in
    let left =
    keys_retained _ g.F.FnMut (λ s. s.0.now)
    (λ s x b t w a. let called = a.called in record { shown = a.key_shown; shows = a.shows.0; called = search rules })
    _ pairs new.self new.f c.retain_by_ref.ensures.pairs in
    subst (λ keys. Retains (CalledAt g.F.FnMut) c.args.f.now keys (keys_of new.self) c.f-1.given.0) c.self.view_is
    (subst (Retains (CalledAt g.F.FnMut) c.args.f.now (keys_of pairs) (keys_of new.self)) (sym (c.f-1.given.1 name)) left)

pub returns-clause-callable : goal.returns-clause-callable
returns-clause-callable g c =
    let pairs = c.self.inside.map in
    let new = c.retain_by_ref.new in
    let name = retains_hold _ (λ s. c.retain_by_ref-arg-2-1.given ≡ s.0.ghost_name)
    (λ s x b t w a same. search (rules, same)) _ pairs new.self new.f c.retain_by_ref.ensures.pairs refl in
    let good =
    retains_hold _ (λ s. always_mut g.F.FnMut s.0.now)
    (λ s x b t w a was. search rules) _ pairs new.self new.f c.retain_by_ref.ensures.pairs c.requires in
    subst (always_mut g.F.FnMut) (sym (c.f-1.given.1 name)) good
