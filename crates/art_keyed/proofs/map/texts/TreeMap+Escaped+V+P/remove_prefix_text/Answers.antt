use Rattle.std.proofs.Common.{ℕ, List, ap, length, ◌∙◌}
use Rattle.std.specs.Bool.{⊤}
use Rattle.art_keys.specs.Escapes.{escape, escape_inside}
use Rattle.art_keys.specs.EscapeLaws.{escape_begins}
use Rattle.art_model.specs.Pairs.{of_key}
use Rattle.art_model.specs.Parts.{below, not_below}
use Rattle.art_keyed.specs.KeyedPairs.{strings_below, strings_not_below}
use Rattle.art_keyed.proofs.KeyRanges.{below_strings, not_below_strings}
use Rattle.art_keyed.proofs.map.texts.TreeMap+Escaped+V+P.remove_prefix_text.Goals as goal

pub returns-clause-pairs : goal.returns-clause-pairs
returns-clause-pairs g c =
    c.remove_prefix_by.ensures.pairs ∙ ap (λ t. not_below (of_key escape) (escape_inside t) c.self.inside.map) c.new.ensures
    ∙ not_below_strings (λ (t : List ℕ). ⊤) escape (λ t. t) c.args.text.now (escape_inside c.args.text.now)
    (λ other of_other. escape_begins c.args.text.now other) c.self.inside.map c.self.invariant
    ∙ ap (strings_not_below (λ t. t) c.args.text.now) c.self.view_is

pub returns-clause-removed : goal.returns-clause-removed
returns-clause-removed g c =
    c.remove_prefix_by.ensures.removed ∙ ap (λ t. length (below (of_key escape) (escape_inside t) c.self.inside.map)) c.new.ensures
    ∙ ap length (below_strings (λ (t : List ℕ). ⊤) escape (λ t. t) c.args.text.now (escape_inside c.args.text.now)
    (λ other of_other. escape_begins c.args.text.now other) c.self.inside.map c.self.invariant)
    ∙ ap (λ pairs. length (strings_below (λ t. t) c.args.text.now pairs)) c.self.view_is
