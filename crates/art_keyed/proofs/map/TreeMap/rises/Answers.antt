use Rattle.art_keyed.proofs.Keyed.{rises}
use Rattle.art_keyed.proofs.map.TreeMap.rises.Goals as goal

pub returns : goal.returns
returns g c =
    rw (← c.self.view_is) (rises g.row.V.Denot _ g.K.AsBytes.bytes g.met.K.OrderedBytes.keeps_order c.self.inside.map c.self.invariant
    c.len.ensures.sorted)
