use Rattle.std.proofs.Common.{rules, ℕ, List, ap, refl, ◌∙◌}
use Rattle.art_keys.specs.Ended.{HasNoZero, ended}
use Rattle.art_model.specs.Pairs.{first_of, of_key}
use Rattle.art_keyed.specs.KeyedPairs.{strings_in_front}
use Rattle.art_keyed.proofs.CutTexts.{from_none}
use Rattle.art_keyed.proofs.EndedFronts.{are_ended, fronts_are}
use Rattle.art_keyed.proofs.map.matches.TreeMap+Terminated+V+P.shortest_match.Goals as goal

pub shortest_text-requires : goal.shortest_text-requires
shortest_text-requires g c = (
  search rules,
  are_ended HasNoZero ended (λ (t : List ℕ). t) (λ t. t) (λ t of_text. (refl, of_text)) (λ a b. refl) c.self.inside.map c.self.invariant,
)

pub returns : goal.returns
returns g c =
    c.shortest_text.ensures.pair
    ∙ ap first_of (from_none (of_key ended) c.args.text.now c.self.inside.map
    ∙ fronts_are HasNoZero ended (λ (t : List ℕ). t) (λ t. t) (λ t of_text. (refl, of_text))
    (λ a b. refl) c.self.inside.map c.self.invariant c.args.text.now c.args.text.now refl)
    ∙ ap (λ pairs. first_of (strings_in_front (λ t. t) c.args.text.now pairs)) c.self.view_is
