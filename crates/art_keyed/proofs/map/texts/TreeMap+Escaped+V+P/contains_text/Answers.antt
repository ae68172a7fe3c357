use Rattle.std.proofs.Common.{ap, is_some, sym, ◌∙◌}
use Rattle.art_keys.specs.Escapes.{escape}
use Rattle.art_parts.specs.Keys.{are_same}
use Rattle.art_model.proofs.pairs.Puts.{any_is_first}
use Rattle.art_iterating.specs.MapItems.{deref_pair}
use Rattle.art_changing.proofs.MapPuts.{is_some-map}
use Rattle.art_keyed.proofs.map.texts.TreeMap+Escaped+V+P.contains_text.Goals as goal

pub returns : goal.returns
returns g c =
    c.is_some.ensures ∙ sym (is_some-map deref_pair c.get_key_value_text.result) ∙ ap is_some c.get_key_value_text.ensures
    ∙ sym (any_is_first (λ x. are_same (escape c.args.text.now) (escape x.0)) c.args.self.now)
