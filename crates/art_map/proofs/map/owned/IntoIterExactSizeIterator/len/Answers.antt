use Rattle.std.proofs.Common.{◌≡◌, length, sym, subst}
use Rattle.art_reading.proofs.PairsLeft.{left_len}
use Rattle.art_map.proofs.map.owned.IntoIterExactSizeIterator.len.Goals as goal

pub returns-clause-value : goal.returns-clause-value
returns-clause-value g c = subst (λ pairs. c.self.inside.len ≡ length pairs) c.self.view_is (sym (left_len _ _ _ c.self.invariant))
