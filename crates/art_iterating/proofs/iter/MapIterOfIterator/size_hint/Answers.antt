use Rattle.std.proofs.Common.{◌≡◌, length, subst, arith, ap, sym, Some}
use Rattle.art_iterating.proofs.Ranges.{walk_full}
use Rattle.art_iterating.proofs.iter.MapIterOfIterator.size_hint.Goals as goal

pub returns-clause-lower : goal.returns-clause-lower
returns-clause-lower g c = let same = subst (λ pairs. length pairs ≡ c.self.inside.len) c.self.view_is (walk_full c.self.invariant) in omega arith

pub returns-clause-upper : goal.returns-clause-upper
returns-clause-upper g c = let same = subst (λ pairs. length pairs ≡ c.self.inside.len) c.self.view_is (walk_full c.self.invariant) in omega arith

pub returns-clause-exact : goal.returns-clause-exact
returns-clause-exact g c =
    let same = subst (λ pairs. length pairs ≡ c.self.inside.len) c.self.view_is (walk_full c.self.invariant) in
    ap (λ n. (n, Some n)) (sym same)
