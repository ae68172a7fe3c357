use Rattle.std.proofs.Common.{ℕ, List, ap, ◌∙◌}
use Rattle.std.specs.Bool.{⊤}
use Rattle.art_keys.specs.Escapes.{escape, escape_inside}
use Rattle.art_keys.specs.EscapeLaws.{escape_begins}
use Rattle.art_model.specs.Pairs.{of_key}
use Rattle.art_model.specs.Parts.{below}
use Rattle.art_keyed.specs.KeyedPairs.{strings_below}
use Rattle.art_keyed.proofs.KeyRanges.{below_strings}
use Rattle.art_keyed.proofs.map.texts.TreeMap+Escaped+V+P.prefix_text.Goals as goal

pub returns-clause-pairs : goal.returns-clause-pairs
returns-clause-pairs g c =
    let text = c.args.text.now in
    c.prefix_by.ensures.pairs ∙ ap (λ t. below (of_key escape) (escape_inside t) c.self.inside.map) c.new.ensures
    ∙ below_strings (λ (t : List ℕ). ⊤) escape (λ t. t) text (escape_inside text) (λ other of_other. escape_begins text other)
    c.self.inside.map c.self.invariant
    ∙ ap (strings_below (λ t. t) text) c.self.view_is
