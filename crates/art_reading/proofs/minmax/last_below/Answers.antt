use Rattle.art_reading.proofs.minmax.last_below.Goals as goal

pub returns : goal.returns
returns g c layout full = (c.walk_to_end.ensures layout full).0
