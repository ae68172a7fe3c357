use Rattle.std.proofs.Common.{◌≡◌, length, sym, subst}
use Rattle.art_iterating.proofs.Ranges.{walk_full}
use Rattle.art_iterating.proofs.iter.MapIterOfExactSizeIterator.len.Goals as goal

pub returns-clause-value : goal.returns-clause-value
returns-clause-value g c = subst (λ pairs. c.self.inside.len ≡ length pairs) c.self.view_is (sym (walk_full c.self.invariant))
