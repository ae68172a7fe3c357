use Rattle.std.proofs.Common.{rules, ◌≡◌, ◌∷◌, length, ap, subst, sym, ◌∙◌, None, Some}
use Rattle.std.specs.Option.{option_map}
use Rattle.art_model.specs.Pairs.{IsMap, first_of, of_key}
use Rattle.art_iterating.specs.MapItems.{deref_pair}
use Rattle.art_model.specs.Texts.{AreEnded}
use Rattle.art_ranges.specs.ShortTexts.{texts_from}
use Rattle.art_keyed.specs.Matches.{matches_left}
use Rattle.art_keyed.proofs.CutTexts.{first_came, none_first}
use Rattle.art_keyed.proofs.EndedFronts.{are_ended}
use Rattle.art_keyed.proofs.map.matches.TreeMapNested.next_match.Goals as goal

pub shortest_text-requires : goal.shortest_text-requires
shortest_text-requires g c = (
  search rules,
  subst (AreEnded (of_key g.K.AsBytes.bytes) 0) (sym c.as_byte_map.ensures.pairs)
      (are_ended _ g.K.AsBytes.bytes g.K.StringBytes.text g.K.StringBytes.inside g.met.K.StringBytes.is_inside
      g.met.K.StringBytes.keeps_fronts c.args.self.now c.as_byte_map.ensures.keys),
)

pub returns-in_err-pair : goal.returns-in_err-pair
returns-in_err-pair g c =
    let none : None ≡ first_of (texts_from (of_key g.K.AsBytes.bytes) c.in_ok-query.query.now c.args.at_least.now c.args.self.now) =
    c.in_err-pair.ensures.pair ∙ ap (λ pairs. first_of
    (texts_from (of_key g.K.AsBytes.bytes) c.in_ok-query.query.now c.args.at_least.now pairs)) c.as_byte_map.ensures.pairs in
    let gone = ap (λ o. matches_left g.K.AsBytes.bytes (option_map (λ b. b.now) o) c.args.at_least.now c.args.self.now) c.in_ok-query.was
    ∙ none_first g.K.AsBytes.bytes c.in_ok-query.query.now c.args.at_least.now c.args.self.now none in
    rw c.from_residual-in_err-pair.ensures (gone, gone)

pub returns : goal.returns
returns g c =
    let ended = are_ended _ g.K.AsBytes.bytes g.K.StringBytes.text g.K.StringBytes.inside g.met.K.StringBytes.is_inside
    g.met.K.StringBytes.keeps_fronts c.args.self.now c.as_byte_map.ensures.keys in
    let rise = subst (IsMap (of_key g.K.AsBytes.bytes)) c.as_byte_map.ensures.pairs c.shortest_text.ensures.sorted in
    let found : Some (deref_pair c.in_ok-pair.pair)
    ≡ first_of (texts_from (of_key g.K.AsBytes.bytes) c.in_ok-query.query.now c.args.at_least.now c.args.self.now) =
    c.in_ok-pair.ensures.pair ∙ ap (λ pairs. first_of
    (texts_from (of_key g.K.AsBytes.bytes) c.in_ok-query.query.now c.args.at_least.now pairs)) c.as_byte_map.ensures.pairs in
    ap (λ o. matches_left g.K.AsBytes.bytes (option_map (λ b. b.now) o) c.args.at_least.now c.args.self.now) c.in_ok-query.was
    ∙ first_came g.K.AsBytes.bytes c.in_ok-query.query.now c.args.at_least.now c.args.self.now rise ended
    (deref_pair c.in_ok-pair.pair) found (length c.as_bytes.result.now) (ap length c.as_bytes.ensures)
    ∙ ap (λ o. deref_pair c.in_ok-pair.pair ∷ matches_left g.K.AsBytes.bytes (option_map (λ b. b.now) o)
    (length c.as_bytes.result.now) c.args.self.now) (sym c.in_ok-query.was)
