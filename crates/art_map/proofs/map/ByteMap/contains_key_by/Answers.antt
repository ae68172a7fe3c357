use Rattle.std.proofs.Common.{ap, ◌∙◌, is_some}
use Rattle.art_map.proofs.NamedPairs.{value_stored, copied_some}
use Rattle.art_map.proofs.map.ByteMap.contains_key_by.Goals as goal

pub returns : goal.returns
returns g c = c.is_some.ensures ∙ copied_some c.get_by.result ∙ ap is_some c.get_by.ensures.value
    ∙ value_stored g.K.AsBytes.bytes (g.Q.KeyBytes.key c.args.query) c.args.self.now
