use Rattle.std.proofs.Common.{refl}
use Rattle.art_keyed.proofs.ExtractedKeys.{prefix_all}
use Rattle.art_keyed.proofs.map.TreeMap.extract_prefix.Goals as goal

pub returns-clause-all : goal.returns-clause-all
returns-clause-all g c = prefix_all g.K.AsBytes.bytes g.K.StringBytes.text c.args.prefix.now record { map = c.args.self; prefix = c.args.prefix } refl
