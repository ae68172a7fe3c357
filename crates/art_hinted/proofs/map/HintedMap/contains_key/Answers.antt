use Rattle.std.proofs.Common.{ap, is_some, sym, ◌∙◌}
use Rattle.art_parts.specs.Keys.{are_same}
use Rattle.art_model.proofs.pairs.Puts.{any_is_first}
use Rattle.art_iterating.specs.MapItems.{deref_pair}
use Rattle.art_changing.proofs.MapPuts.{is_some-map}
use Rattle.art_hinted.proofs.map.HintedMap.contains_key.Goals as goal

pub returns : goal.returns
returns g c =
    let bytes = g.K.AsBytes.bytes in
    c.is_some.ensures ∙ sym (is_some-map deref_pair c.get_key_value.result) ∙ ap is_some c.get_key_value.ensures
    ∙ sym (any_is_first (λ x. are_same (bytes c.args.key.now) (bytes x.0)) c.args.self.now)
