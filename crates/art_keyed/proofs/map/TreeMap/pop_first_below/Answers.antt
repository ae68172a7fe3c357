use Rattle.std.proofs.Common.{ap, ◌∙◌}
use Rattle.art_model.specs.Pairs.{first_of}
use Rattle.art_keyed.proofs.KeyRanges.{below_strings, first_out_keeps, without_string}
use Rattle.art_keyed.proofs.KeyedLaws.{below_told, seen_as}
use Rattle.art_keyed.proofs.map.TreeMap.pop_first_below.Goals as goal

pub invariant_of-self : goal.invariant_of-self
invariant_of-self g c = rw c.pop_first_below.ensures.pairs (first_out_keeps _ g.K.AsBytes.bytes c.beginning.result.now c.self.inside.map c.self.invariant)

pub returns-clause-pairs : goal.returns-clause-pairs
returns-clause-pairs g c =
    rw (← c.self.view_is) (c.pop_first_below.ensures.pairs
    ∙ without_string _ g.K.AsBytes.bytes g.K.StringBytes.text c.args.prefix.now c.beginning.result.now c.beginning.ensures.begins
    c.self.inside.map c.self.invariant)

pub returns-clause-removed : goal.returns-clause-removed
returns-clause-removed g c =
    rw (← c.self.view_is) (c.pop_first_below.ensures.removed
    ∙ ap first_of (below_strings _ g.K.AsBytes.bytes g.K.StringBytes.text c.args.prefix.now c.beginning.result.now
    c.beginning.ensures.begins c.self.inside.map c.self.invariant))

pub returns-clause-key : goal.returns-clause-key
returns-clause-key g c = (seen_as _ _ _ c.self.view_is
    (below_told g.K.AsBytes.bytes _ g.met.K.NoPrefixesBytes.injective c.beginning.result.now c.pop_first_below.result c.self.inside.map
    c.pop_first_below.new.self c.pop_first_below.ensures.was_sorted c.self.invariant c.pop_first_below.ensures.removed
    c.pop_first_below.ensures.pairs)).key

pub returns-clause-stored : goal.returns-clause-stored
returns-clause-stored g c = (seen_as _ _ _ c.self.view_is
    (below_told g.K.AsBytes.bytes _ g.met.K.NoPrefixesBytes.injective c.beginning.result.now c.pop_first_below.result c.self.inside.map
    c.pop_first_below.new.self c.pop_first_below.ensures.was_sorted c.self.invariant c.pop_first_below.ensures.removed
    c.pop_first_below.ensures.pairs)).stored

pub returns-clause-gone : goal.returns-clause-gone
returns-clause-gone g c = (seen_as _ _ _ c.self.view_is
    (below_told g.K.AsBytes.bytes _ g.met.K.NoPrefixesBytes.injective c.beginning.result.now c.pop_first_below.result c.self.inside.map
    c.pop_first_below.new.self c.pop_first_below.ensures.was_sorted c.self.invariant c.pop_first_below.ensures.removed
    c.pop_first_below.ensures.pairs)).gone

pub returns-clause-other_keys : goal.returns-clause-other_keys
returns-clause-other_keys g c = (seen_as _ _ _ c.self.view_is
    (below_told g.K.AsBytes.bytes _ g.met.K.NoPrefixesBytes.injective c.beginning.result.now c.pop_first_below.result c.self.inside.map
    c.pop_first_below.new.self c.pop_first_below.ensures.was_sorted c.self.invariant c.pop_first_below.ensures.removed
    c.pop_first_below.ensures.pairs)).other_keys

pub returns-clause-len : goal.returns-clause-len
returns-clause-len g c = (seen_as _ _ _ c.self.view_is
    (below_told g.K.AsBytes.bytes _ g.met.K.NoPrefixesBytes.injective c.beginning.result.now c.pop_first_below.result c.self.inside.map
    c.pop_first_below.new.self c.pop_first_below.ensures.was_sorted c.self.invariant c.pop_first_below.ensures.removed
    c.pop_first_below.ensures.pairs)).len
