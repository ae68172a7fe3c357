use Rattle.art_map.proofs.Results.{none_found, rest_found}
use Rattle.art_map.proofs.map.ByteMap.remove.Goals as goal

pub returns-clause-gone : goal.returns-clause-gone
returns-clause-gone g c = none_found g.K.AsBytes.bytes c.args.key_bytes.now _ _ c.remove_by.ensures.pairs

pub returns-clause-others : goal.returns-clause-others
returns-clause-others g c = rest_found g.K.AsBytes.bytes c.args.key_bytes.now _ _ c.remove_by.ensures.pairs
