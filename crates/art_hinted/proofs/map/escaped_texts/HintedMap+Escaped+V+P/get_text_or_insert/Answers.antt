use Rattle.std.proofs.Common.{ap, ◌∙◌}
use Rattle.std.specs.Option.{unwrap_or}
use Rattle.art_keys.specs.Escapes.{escape}
use Rattle.art_model.specs.Pairs.{of_key, put}
use Rattle.art_changing.specs.MapAnswers.{value_at}
use Rattle.art_map.proofs.WrittenValues.{lends_same}
use Rattle.art_hinted.proofs.map.escaped_texts.HintedMap+Escaped+V+P.get_text_or_insert.Goals as goal

pub returns-in-Ok : goal.returns-in-Ok
returns-in-Ok g c = (
  lends_same (λ w. ap (put (of_key escape) (c.args.text.now, w)) c.self.view_is),
  record {
    writes_back = tt;
    value = c.in-Ok.ensures.value ∙ ap (λ pairs. unwrap_or (value_at escape (escape c.args.text.now) pairs) c.args.value) c.self.view_is;
    returned = tt;
    refused = tt;
  },
)
