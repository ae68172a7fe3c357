use Rattle.std.proofs.Common.{rules, ℕ, List, ap, refl, sym, ◌∙◌}
use Rattle.std.specs.Bool.{⊤}
use Rattle.art_keys.specs.Escapes.{escape, escape_inside}
use Rattle.art_keys.specs.EscapeLaws.{escape-plain, escape_is, escape_keeps_fronts, inside_no_zero, snoc_same}
use Rattle.art_model.specs.Pairs.{last_of, of_key}
use Rattle.art_model.specs.Texts.{texts_in_front}
use Rattle.art_keyed.specs.KeyedPairs.{strings_in_front}
use Rattle.art_keyed.proofs.EndedFronts.{are_ended, fronts_are}
use Rattle.art_keyed.proofs.map.texts.TreeMap+Escaped+V+P.longest_match.Goals as goal

pub longest_text-requires : goal.longest_text-requires
longest_text-requires g c = (
  search rules,
  are_ended (λ (t : List ℕ). ⊤) escape (λ t. t) escape_inside
      (λ t of_text. (escape_is t, inside_no_zero t)) escape_keeps_fronts c.self.inside.map c.self.invariant,
)

pub longest_text_by-requires : goal.longest_text_by-requires
longest_text_by-requires g c = (
  search rules,
  are_ended (λ (t : List ℕ). ⊤) escape (λ t. t) escape_inside
      (λ t of_text. (escape_is t, inside_no_zero t)) escape_keeps_fronts c.self.inside.map c.self.invariant,
)

pub returns-then-is_plain : goal.returns-then-is_plain
returns-then-is_plain g c =
    let text = c.args.text.now in
    let plain = (snoc_same (escape_inside text) text 0 0 (sym (escape_is text) ∙ escape-plain text c.if-is_plain.ensures.yes)).0 in
    c.longest_text.ensures.pair
    ∙ ap last_of (fronts_are (λ (t : List ℕ). ⊤) escape (λ t. t) escape_inside
    (λ t of_text. (escape_is t, inside_no_zero t)) escape_keeps_fronts c.self.inside.map c.self.invariant text text (sym plain))
    ∙ ap (λ pairs. last_of (strings_in_front (λ t. t) text pairs)) c.self.view_is

pub returns : goal.returns
returns g c =
    let text = c.args.text.now in
    c.longest_text_by.ensures.pair ∙ ap (λ front. last_of (texts_in_front (of_key escape) (escape_inside front) c.self.inside.map)) c.new.ensures
    ∙ ap last_of (fronts_are (λ (t : List ℕ). ⊤) escape (λ t. t) escape_inside
    (λ t of_text. (escape_is t, inside_no_zero t)) escape_keeps_fronts c.self.inside.map c.self.invariant text (escape_inside text) refl)
    ∙ ap (λ pairs. last_of (strings_in_front (λ t. t) text pairs)) c.self.view_is
