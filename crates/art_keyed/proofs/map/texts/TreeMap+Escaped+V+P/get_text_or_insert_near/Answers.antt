use Rattle.std.proofs.Common.{ℕ, ◌≤◌, List, ap₂, length, refl, ◌∙◌}
use Rattle.std.proofs.lemmas.Result.{err_from_is_err_and}
use Rattle.std.specs.Bool.{⊤}
use Rattle.std.specs.Option.{unwrap_or}
use Rattle.art_keys.specs.EscapeLaws.{escape_no_prefixes}
use Rattle.art_keys.specs.Escapes.{escape}
use Rattle.art_model.specs.Pairs.{of_key, put}
use Rattle.art_changing.specs.MapAnswers.{value_at}
use Rattle.art_map.proofs.WrittenValues.{lends_same}
use Rattle.art_keyed.proofs.Keyed.{put_keeps, source_refused}
use Rattle.art_keyed.proofs.map.texts.TreeMap+Escaped+V+P.get_text_or_insert_near.Goals as goal

pub returns-in_err-get_or_insert_from_near : goal.returns-in_err-get_or_insert_from_near
returns-in_err-get_or_insert_from_near g c =
    let (error, result_is, value_is) = err_from_is_err_and c.from_residual.result c.from_residual.ensures.1 in
    let told = source_refused g.row.V.Denot (λ (text : List ℕ). ⊤) escape escape_no_prefixes c.new-source.result c.args.value c.self.inside.map c.self.invariant
    (length (escape c.new-source.result) ≤ 30) c.in_err-get_or_insert_from_near.field-0.0 c.in_err-get_or_insert_from_near.ensures.refused in
    rw (result_is, ← c.self.view_is, ← c.new-source.ensures) (
      refl,
      record { writes_back = tt; value = tt; returned = value_is ∙ told.0; refused = told.1 },
    )

pub invariant_of-self-lent : goal.invariant_of-self-lent
invariant_of-self-lent g c w = put_keeps g.row.V.Denot (λ (text : List ℕ). ⊤) escape c.new-source.result w c.self.inside.map tt c.self.invariant

pub returns : goal.returns
returns g c = (
  lends_same (λ w. ap₂ (λ text pairs. put (of_key escape) (text, w) pairs) c.new-source.ensures c.self.view_is),
  record {
    writes_back = tt;
    value = c.in_ok-get_or_insert_from_near.ensures.value
        ∙ ap₂ (λ text pairs. unwrap_or (value_at escape (escape text) pairs) c.args.value) c.new-source.ensures c.self.view_is;
    returned = tt;
    refused = tt;
  },
)
