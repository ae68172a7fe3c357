use Rattle.std.proofs.Common.{ℕ, List, ap, length, subst, sym, ◌∙◌}
use Rattle.art_keys.specs.Ended.{HasNoZero, ended}
use Rattle.art_keys.specs.EndedLaws.{ended_begins}
use Rattle.art_keyed.specs.KeyedPairs.{HaveKeys, strings_below, strings_not_below}
use Rattle.art_keyed.proofs.KeyRanges.{below_strings, not_below_strings, others_keep}
use Rattle.art_keyed.proofs.TextParts.{all_stay, none_start}
use Rattle.art_keyed.proofs.map.texts.TreeMap+Terminated+V+P.remove_prefix_text.Goals as goal

pub returns-then-has_zero-clause-pairs : goal.returns-then-has_zero-clause-pairs
returns-then-has_zero-clause-pairs g c = sym (all_stay c.args.text.now c.if-has_zero.ensures.found c.args.self.now c.as_byte_map.ensures.keys)

pub returns-then-has_zero-clause-removed : goal.returns-then-has_zero-clause-removed
returns-then-has_zero-clause-removed g c = ap length (sym (none_start c.args.text.now c.if-has_zero.ensures.found c.args.self.now c.as_byte_map.ensures.keys))

pub invariant_of-self : goal.invariant_of-self
invariant_of-self g c =
    subst (HaveKeys HasNoZero) (sym c.remove_prefix.ensures.pairs) (others_keep HasNoZero ended c.args.text.now c.self.inside.map c.self.invariant)

pub returns-clause-pairs : goal.returns-clause-pairs
returns-clause-pairs g c =
    c.remove_prefix.ensures.pairs
    ∙ not_below_strings HasNoZero ended (λ (t : List ℕ). t) c.args.text.now c.args.text.now
    (λ other of_other. ended_begins c.args.text.now other c.if-has_zero.ensures.none) c.self.inside.map c.self.invariant
    ∙ ap (strings_not_below (λ (t : List ℕ). t) c.args.text.now) c.self.view_is

pub returns-clause-removed : goal.returns-clause-removed
returns-clause-removed g c =
    c.remove_prefix.ensures.removed
    ∙ ap length (below_strings HasNoZero ended (λ (t : List ℕ). t) c.args.text.now c.args.text.now
    (λ other of_other. ended_begins c.args.text.now other c.if-has_zero.ensures.none) c.self.inside.map c.self.invariant)
    ∙ ap (λ pairs. length (strings_below (λ (t : List ℕ). t) c.args.text.now pairs)) c.self.view_is
