use Rattle.art_keys.specs.JoinLaws.{joins_keep_order}
use Rattle.art_keys.proofs.laws.encodings.joined_keys_keep_order.Goals as goal

pub returns : goal.returns
returns g c =
    joins_keep_order g.A.NoPrefixesBytes.is_key g.A.AsBytes.bytes g.B.NoPrefixesBytes.is_key g.B.AsBytes.bytes g.met.A.NoPrefixesBytes.no_prefixes
    g.met.A.OrderedBytes.keeps_order g.met.B.OrderedBytes.keeps_order
