use Rattle.std.proofs.Common.{ℕ, List, ap, sym, ◌∙◌}
use Rattle.art_keys.specs.Ended.{HasNoZero, ended}
use Rattle.art_keys.specs.EndedLaws.{ended_begins}
use Rattle.art_keyed.specs.KeyedPairs.{strings_below}
use Rattle.art_keyed.proofs.KeyRanges.{below_strings}
use Rattle.art_keyed.proofs.TextParts.{none_between, none_start}
use Rattle.art_keyed.proofs.map.texts.TreeMap+Terminated+V+P.prefix_text.Goals as goal

pub returns-then-has_zero-clause-pairs : goal.returns-then-has_zero-clause-pairs
returns-then-has_zero-clause-pairs g c =
    c.range.ensures.pairs tt ∙ none_between (λ x. ended x.0) c.args.text.now c.self.inside.map
    ∙ sym (none_start c.args.text.now c.if-has_zero.ensures.found c.self.inside.map c.self.invariant)
    ∙ ap (strings_below (λ (t : List ℕ). t) c.args.text.now) c.self.view_is

pub returns-clause-pairs : goal.returns-clause-pairs
returns-clause-pairs g c =
    c.prefix.ensures.pairs
    ∙ below_strings HasNoZero ended (λ (t : List ℕ). t) c.args.text.now c.args.text.now
    (λ other of_other. ended_begins c.args.text.now other c.if-has_zero.ensures.none) c.self.inside.map c.self.invariant
    ∙ ap (strings_below (λ (t : List ℕ). t) c.args.text.now) c.self.view_is
