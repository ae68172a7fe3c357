use Rattle.std.proofs.Common.{ℕ, ◌<◌, List, ap, length, refl, ◌∙◌}
use Rattle.std.proofs.lemmas.Result.{err_from_is_err_and}
use Rattle.std.specs.Option.{unwrap_or}
use Rattle.art_keys.specs.Ended.{HasNoZero, ended}
use Rattle.art_keys.specs.EndedLaws.{ended_no_prefixes}
use Rattle.art_model.specs.Pairs.{of_key, put}
use Rattle.art_changing.specs.MapAnswers.{value_at}
use Rattle.art_map.specs.MadeKeys.{IsSourceRefusal}
use Rattle.art_map.specs.declared.map.to_key.MapSourceError.{MapSourceError}
use Rattle.art_map.specs.declared.map.to_key.MapSourceError.TheVariants.{Insert, Memory, NoKey}
use Rattle.art_map.proofs.WrittenValues.{lends_same}
use Rattle.art_keyed.specs.KeyedPairs.{HaveKeys}
use Rattle.art_keyed.specs.TextCalls.{IsTextRefusal, text_refused}
use Rattle.art_keyed.proofs.Keyed.{new_put_keeps, source_refused}
use Rattle.art_keyed.proofs.map.texts.TreeMap+Terminated+V+P.get_text_or_insert_near.Goals as goal

-- the error of a map of bytes is one of texts
text_told : {V : Type 0} (text : List ℕ) (value : V) (pairs : List (List ℕ × V)) → HaveKeys HasNoZero pairs →
    (AllocatesNothing : Type 0) (error : MapSourceError (List ℕ) V) → IsSourceRefusal ended text (HasNoZero text) AllocatesNothing value pairs error →
    IsTextRefusal text value (text_refused error)
text_told text value pairs all free (NoKey given) told = (told.0, told.1)
text_told text value pairs all free (Memory given) told = (told.0, told.1)
text_told {V} text value pairs all free (Insert error) told =
    ((source_refused V HasNoZero ended ended_no_prefixes text value pairs all free (Insert error) told).0, told.0)

pub returns-in_err-get_or_insert_from_near : goal.returns-in_err-get_or_insert_from_near
returns-in_err-get_or_insert_from_near g c =
    let (refused, result_is, refused_is) = err_from_is_err_and c.from_residual.result c.from_residual.ensures.1 in
    let error = c.in_err-get_or_insert_from_near.field-0.0 in
    let told = c.in_err-get_or_insert_from_near.ensures.refused in
    rw (result_is, refused_is, ← c.self.view_is) (
      refl,
      record {
        writes_back = tt;
        value = tt;
        returned = text_told c.args.text.now c.args.value c.self.inside.map c.self.invariant (length c.args.text.now < 30) error told;
        refused = (source_refused g.row.V.Denot HasNoZero ended ended_no_prefixes c.args.text.now c.args.value c.self.inside.map c.self.invariant (length c.args.text.now < 30) error told).1;
      },
    )

pub invariant_of-self-lent : goal.invariant_of-self-lent
invariant_of-self-lent g c w =
    new_put_keeps g.row.V.Denot HasNoZero ended c.args.text.now w c.self.inside.map c.in_ok-get_or_insert_from_near.ensures.is_key c.self.invariant

pub returns : goal.returns
returns g c = (
  lends_same (λ w. ap (put (of_key ended) (c.args.text.now, w)) c.self.view_is),
  record {
    writes_back = tt;
    value = c.in_ok-get_or_insert_from_near.ensures.value
        ∙ ap (λ pairs. unwrap_or (value_at ended (ended c.args.text.now) pairs) c.args.value) c.self.view_is;
    returned = tt;
    refused = tt;
  },
)
