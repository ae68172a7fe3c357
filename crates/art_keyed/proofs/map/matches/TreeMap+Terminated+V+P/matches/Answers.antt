use Rattle.std.proofs.Common.{ℕ, List, refl, ◌∙◌}
use Rattle.art_keys.specs.Ended.{HasNoZero, ended}
use Rattle.art_model.specs.Pairs.{of_key}
use Rattle.art_keyed.proofs.CutTexts.{from_none}
use Rattle.art_keyed.proofs.EndedFronts.{fronts_are}
use Rattle.art_keyed.proofs.map.matches.TreeMap+Terminated+V+P.matches.Goals as goal

pub returns : goal.returns
returns g c =
    from_none (of_key ended) c.args.text.now c.args.self.now
    ∙ fronts_are HasNoZero ended (λ (t : List ℕ). t) (λ t. t) (λ t of_text. (refl, of_text))
    (λ a b. refl) c.args.self.now c.as_byte_map.ensures.keys c.args.text.now c.args.text.now refl
