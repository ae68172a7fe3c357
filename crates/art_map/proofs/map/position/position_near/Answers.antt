use Rattle.art_map.proofs.Near.{near_named}
use Rattle.art_map.proofs.map.position.position_near.Goals as goal

pub returns-then-has_key_at : goal.returns-then-has_key_at
returns-then-has_key_at g c =
    near_named g.K.AsBytes.bytes g.row.P c.args.key_bytes.now c.in-Some.leaf (c.has_key_at.ensures c.if-has_key_at.true) c.requires.1
