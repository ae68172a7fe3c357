use Rattle.std.proofs.Common.{rules, ◌≡◌, ◌-◌, length, take, ap, arith, subst, sym, ◌∙◌, None, Some}
use Rattle.std.specs.Option.{option_map}
use Rattle.art_model.specs.Pairs.{IsMap, last_of, of_key}
use Rattle.art_iterating.specs.MapItems.{deref_pair}
use Rattle.art_model.specs.Texts.{AreEnded, texts_in_front}
use Rattle.art_keyed.specs.Matches.{matches_left}
use Rattle.art_keyed.proofs.CutTexts.{key_short, last_came, none_last, too_short}
use Rattle.art_keyed.proofs.EndedFronts.{are_ended}
use Rattle.art_keyed.proofs.map.matches.TreeMapNested.next_back_match.Goals as goal

pub longest_text-requires : goal.longest_text-requires
longest_text-requires g c = (
  search rules,
  subst (AreEnded (of_key g.K.AsBytes.bytes) 0) (sym c.as_byte_map.ensures.pairs)
      (are_ended _ g.K.AsBytes.bytes g.K.StringBytes.text g.K.StringBytes.inside g.met.K.StringBytes.is_inside
      g.met.K.StringBytes.keeps_fronts c.args.self.now c.as_byte_map.ensures.keys),
)

pub returns-in_err-pair : goal.returns-in_err-pair
returns-in_err-pair g c =
    let none : None ≡ last_of (texts_in_front (of_key g.K.AsBytes.bytes) c.in_ok-query.query.now c.args.self.now) =
    c.in_err-pair.ensures.pair ∙ ap (λ pairs. last_of (texts_in_front (of_key g.K.AsBytes.bytes) c.in_ok-query.query.now pairs)) c.as_byte_map.ensures.pairs in
    let gone = ap (λ o. matches_left g.K.AsBytes.bytes (option_map (λ b. b.now) o) c.args.at_least c.args.self.now) c.in_ok-query.was
    ∙ none_last g.K.AsBytes.bytes c.in_ok-query.query.now c.args.at_least c.args.self.now none in
    rw c.from_residual-in_err-pair.ensures (gone, gone)

pub returns-then-as_bytes-at_least : goal.returns-then-as_bytes-at_least
returns-then-as_bytes-at_least g c =
    let ended = are_ended _ g.K.AsBytes.bytes g.K.StringBytes.text g.K.StringBytes.inside g.met.K.StringBytes.is_inside
    g.met.K.StringBytes.keeps_fronts c.args.self.now c.as_byte_map.ensures.keys in
    let rise = subst (IsMap (of_key g.K.AsBytes.bytes)) c.as_byte_map.ensures.pairs c.longest_text.ensures.sorted in
    let found : Some (deref_pair c.in_ok-pair.pair) ≡ last_of (texts_in_front (of_key g.K.AsBytes.bytes) c.in_ok-query.query.now c.args.self.now) =
    c.in_ok-pair.ensures.pair ∙ ap (λ pairs. last_of (texts_in_front (of_key g.K.AsBytes.bytes) c.in_ok-query.query.now pairs)) c.as_byte_map.ensures.pairs in
    let same = ap length c.as_bytes.ensures in
    let gone = ap (λ o. matches_left g.K.AsBytes.bytes (option_map (λ b. b.now) o) c.args.at_least c.args.self.now) c.in_ok-query.was
    ∙ too_short g.K.AsBytes.bytes c.in_ok-query.query.now c.args.at_least c.args.self.now rise ended (deref_pair c.in_ok-pair.pair) found (omega arith) in
    (gone, gone)

pub shorter-requires : goal.shorter-requires
shorter-requires g c =
    let ended = are_ended _ g.K.AsBytes.bytes g.K.StringBytes.text g.K.StringBytes.inside g.met.K.StringBytes.is_inside
    g.met.K.StringBytes.keeps_fronts c.args.self.now c.as_byte_map.ensures.keys in
    let rise = subst (IsMap (of_key g.K.AsBytes.bytes)) c.as_byte_map.ensures.pairs c.longest_text.ensures.sorted in
    let found : Some (deref_pair c.in_ok-pair.pair) ≡ last_of (texts_in_front (of_key g.K.AsBytes.bytes) c.in_ok-query.query.now c.args.self.now) =
    c.in_ok-pair.ensures.pair ∙ ap (λ pairs. last_of (texts_in_front (of_key g.K.AsBytes.bytes) c.in_ok-query.query.now pairs)) c.as_byte_map.ensures.pairs in
    let short = key_short (of_key g.K.AsBytes.bytes) 0 c.in_ok-query.query.now c.args.self.now rise ended (deref_pair c.in_ok-pair.pair) (sym found) in
    let same = ap length c.as_bytes-2.ensures in
    omega arith

pub returns : goal.returns
returns g c =
    let ended = are_ended _ g.K.AsBytes.bytes g.K.StringBytes.text g.K.StringBytes.inside g.met.K.StringBytes.is_inside
    g.met.K.StringBytes.keeps_fronts c.args.self.now c.as_byte_map.ensures.keys in
    let rise = subst (IsMap (of_key g.K.AsBytes.bytes)) c.as_byte_map.ensures.pairs c.longest_text.ensures.sorted in
    let found : Some (deref_pair c.in_ok-pair.pair) ≡ last_of (texts_in_front (of_key g.K.AsBytes.bytes) c.in_ok-query.query.now c.args.self.now) =
    c.in_ok-pair.ensures.pair ∙ ap (λ pairs. last_of (texts_in_front (of_key g.K.AsBytes.bytes) c.in_ok-query.query.now pairs)) c.as_byte_map.ensures.pairs in
    let own = ap length c.as_bytes.ensures in
    let same = ap length c.as_bytes-2.ensures in
    ap (λ o. matches_left g.K.AsBytes.bytes (option_map (λ b. b.now) o) c.args.at_least c.args.self.now) c.in_ok-query.was
    ∙ last_came g.K.AsBytes.bytes c.in_ok-query.query.now c.args.at_least c.args.self.now rise ended (deref_pair c.in_ok-pair.pair) found
    (omega arith) (option_map (λ b. b.now) c.shorter.result)
    (λ few. c.shorter.ensures.empty (omega arith))
    (λ more. c.shorter.ensures.cut (omega arith) ∙ ap (λ n. Some (take (n - 2) c.in_ok-query.query.now)) same)
