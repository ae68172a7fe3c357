use Rattle.std.proofs.Common.{List}
use Rattle.art_model.specs.Apart.{HasBoth}
use Rattle.art_model.specs.Pairs.{of_key}
use Rattle.uses.specs.Leases.{AreLeases}
use Rattle.uses.proofs.Due.{IsLeft}
use Rattle.uses.proofs.leases.expire.Given as goal

abbrev pub invariant-loop-turn : goal.invariant-loop-turn
invariant-loop-turn g l =
    AreLeases (of_key g.K.AsBytes.bytes) g.row.P l.store l.roots ×
    ((ids ends : List (g.row.K.Denot × g.row.V.Denot)) →
    HasBoth (of_key g.K.AsBytes.bytes) g.row.P l.fn.store l.fn.roots.by_id l.fn.roots.by_end ids ends →
    IsLeft g.K.AsBytes.bytes l.now g.row.P ids ends l.store l.roots l.turn)
