use Rattle.std.proofs.Common.{refl}
use Rattle.art_map.proofs.Extracted.{prefix_all}
use Rattle.art_map.proofs.map.ByteMap.extract_prefix.Goals as goal

pub returns-clause-all : goal.returns-clause-all
returns-clause-all g c = prefix_all g.K.AsBytes.bytes c.args.prefix.now record { map = c.args.self; prefix = c.args.prefix } refl
