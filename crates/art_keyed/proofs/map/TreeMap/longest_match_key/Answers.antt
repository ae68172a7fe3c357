use Rattle.std.proofs.Common.{rules, ap, subst, ◌∙◌}
use Rattle.art_model.specs.Pairs.{IsMap, last_of, of_key}
use Rattle.art_keyed.specs.KeyedPairs.{strings_in_front}
use Rattle.art_keyed.proofs.EndedFronts.{are_ended, fronts_are}
use Rattle.art_keyed.proofs.map.TreeMap.longest_match_key.Goals as goal

pub longest_text-requires : goal.longest_text-requires
longest_text-requires g c = (
  search rules,
  are_ended _ g.K.AsBytes.bytes g.K.StringBytes.text g.K.StringBytes.inside g.met.K.StringBytes.is_inside g.met.K.StringBytes.keeps_fronts
      c.self.inside.map c.self.invariant,
)

pub returns-clause-pair : goal.returns-clause-pair
returns-clause-pair g c =
    let text = g.K.StringBytes.text in
    c.longest_text.ensures.pair
    ∙ ap last_of (fronts_are _ g.K.AsBytes.bytes g.K.StringBytes.text g.K.StringBytes.inside g.met.K.StringBytes.is_inside
    g.met.K.StringBytes.keeps_fronts c.self.inside.map c.self.invariant
    (g.K.StringBytes.text c.args.query.now) c.beginning.result.now c.beginning.ensures.inside)
    ∙ ap (λ pairs. last_of (strings_in_front g.K.StringBytes.text (g.K.StringBytes.text c.args.query.now) pairs)) c.self.view_is

pub returns-clause-sorted : goal.returns-clause-sorted
returns-clause-sorted g c = subst (IsMap (of_key g.K.AsBytes.bytes)) c.self.view_is c.longest_text.ensures.sorted
