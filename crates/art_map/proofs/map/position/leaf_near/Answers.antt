use Rattle.std.proofs.Common.{refl, rules}
use Rattle.art_map.proofs.Near.{found_named, near_named}
use Rattle.art_changing.proofs.MapPuts.{canonical_root}
use Rattle.art_map.proofs.map.position.leaf_near.Goals as goal

pub returns-then-has_key_at : goal.returns-then-has_key_at
returns-then-has_key_at g c =
    near_named g.K.AsBytes.bytes g.row.P (g.Q.KeyBytes.key c.args.query) c.in-Some.leaf (c.has_key_at.ensures c.if-has_key_at.true) c.requires.1

pub search_for-requires : goal.search_for-requires
search_for-requires g c = (search rules, canonical_root refl c.requires.1)

pub returns : goal.returns
returns g c =
    found_named g.K.AsBytes.bytes g.row.P (g.Q.KeyBytes.key c.args.query) c.search_for.result c.requires.1 c.search_for.ensures.leaf
