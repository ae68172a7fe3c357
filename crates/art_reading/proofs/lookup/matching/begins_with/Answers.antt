use Rattle.art_reading.proofs.Blocks.{front_taken}
use Rattle.art_reading.proofs.lookup.matching.begins_with.Goals as goal

pub returns-then-front-bytes : goal.returns-then-front-bytes
returns-then-front-bytes c = front_taken c.args.front.now c.args.bytes.now c.have_same_front.ensures
