use Rattle.art_changing.proofs.MapPuts.{planted}
use Rattle.art_changing.proofs.insert.begin.Goals as goal

pub returns-in-Ok : goal.returns-in-Ok
returns-in-Ok g c = rw c.to_opaque.ensures (planted g.K.AsBytes.bytes g.row.P c.requires.holds c.in-Ok.ensures.planted)
