use Rattle.std.proofs.Common.{◌≤◌, arith, cond, length, not, subst}
use Rattle.art_sets.proofs.SetSides.{few_pass}
use Rattle.art_sets.proofs.set.algebra.SelectedOfIterator.size_hint.Goals as goal

pub returns-clause-upper : goal.returns-clause-upper
returns-clause-upper g c =
    let has = g.O.HasKey.has c.self.inside.other.now in
    let few = subst (λ keys. length keys ≤ length c.self.inside.keys) c.self.view_is
    (few_pass (λ k. cond c.self.inside.wanted (has k) (not (has k))) c.self.inside.keys) in
    let counted = c.len.ensures.value in
    (tt, omega arith)
