use Rattle.art_keyed.proofs.Keyed.{never_in_conflict}
use Rattle.art_keyed.proofs.laws.keys_are_never_in_conflict.Goals as goal

pub returns : goal.returns
returns g c = never_in_conflict g.row.V.Denot _ g.K.AsBytes.bytes g.met.K.NoPrefixesBytes.no_prefixes
