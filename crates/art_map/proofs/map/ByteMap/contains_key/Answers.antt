use Rattle.std.proofs.Common.{ap, ◌∙◌, is_some}
use Rattle.art_map.proofs.NamedPairs.{value_stored, copied_some}
use Rattle.art_map.proofs.map.ByteMap.contains_key.Goals as goal

pub returns : goal.returns
returns g c =
    c.is_some.ensures ∙ copied_some c.get.result ∙ ap is_some c.get.ensures.value
    ∙ value_stored g.K.AsBytes.bytes c.args.key_bytes.now c.args.self.now
