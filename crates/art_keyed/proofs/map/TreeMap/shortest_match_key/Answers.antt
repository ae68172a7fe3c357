use Rattle.std.proofs.Common.{rules, ap, ◌∙◌}
use Rattle.art_model.specs.Pairs.{first_of, of_key}
use Rattle.art_keyed.specs.KeyedPairs.{strings_in_front}
use Rattle.art_keyed.proofs.CutTexts.{from_none}
use Rattle.art_keyed.proofs.EndedFronts.{are_ended, fronts_are}
use Rattle.art_keyed.proofs.map.TreeMap.shortest_match_key.Goals as goal

pub shortest_text-requires : goal.shortest_text-requires
shortest_text-requires g c = (
  search rules,
  are_ended _ g.K.AsBytes.bytes g.K.StringBytes.text g.K.StringBytes.inside g.met.K.StringBytes.is_inside g.met.K.StringBytes.keeps_fronts
      c.self.inside.map c.self.invariant,
)

pub returns : goal.returns
returns g c =
    let text = g.K.StringBytes.text in
    c.shortest_text.ensures.pair
    ∙ ap first_of (from_none (of_key g.K.AsBytes.bytes) c.beginning.result.now c.self.inside.map
    ∙ fronts_are _ g.K.AsBytes.bytes g.K.StringBytes.text g.K.StringBytes.inside g.met.K.StringBytes.is_inside
    g.met.K.StringBytes.keeps_fronts c.self.inside.map c.self.invariant
    (g.K.StringBytes.text c.args.query.now) c.beginning.result.now c.beginning.ensures.inside)
    ∙ ap (λ pairs. first_of (strings_in_front text (text c.args.query.now) pairs)) c.self.view_is
