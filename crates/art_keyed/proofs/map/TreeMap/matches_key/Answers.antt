use Rattle.std.proofs.Common.{◌∙◌}
use Rattle.art_model.specs.Pairs.{of_key}
use Rattle.art_keyed.proofs.CutTexts.{from_none}
use Rattle.art_keyed.proofs.EndedFronts.{fronts_are}
use Rattle.art_keyed.proofs.map.TreeMap.matches_key.Goals as goal

pub returns : goal.returns
returns g c =
    from_none (of_key g.K.AsBytes.bytes) c.beginning.result.now c.args.self.now
    ∙ fronts_are _ g.K.AsBytes.bytes g.K.StringBytes.text g.K.StringBytes.inside g.met.K.StringBytes.is_inside
    g.met.K.StringBytes.keeps_fronts c.args.self.now c.as_byte_map.ensures.keys
    (g.K.StringBytes.text c.args.query.now) c.beginning.result.now c.beginning.ensures.inside
