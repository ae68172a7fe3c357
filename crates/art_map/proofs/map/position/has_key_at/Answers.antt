use Rattle.std.proofs.Common.{sym}
use Rattle.art_map.proofs.map.position.has_key_at.Goals as goal

pub returns : goal.returns
returns g c same = (c.in-Some.node.now, sym c.in-Some.ensures, c.finds.ensures.0 same)
