use Rattle.std.proofs.Common.{ap, subst, sym, ◌∙◌}
use Rattle.art_model.specs.Pairs.{of_key}
use Rattle.art_model.specs.Parts.{below}
use Rattle.art_map.specs.MapCalls.{ChangesPairs}
use Rattle.art_keyed.specs.KeyedPairs.{strings_below, strings_not_below}
use Rattle.art_keyed.proofs.KeyRanges.{below_strings, not_below_strings}
use Rattle.art_keyed.proofs.KeptByAll.{keys_keep}
use Rattle.art_keyed.proofs.map.TreeMap.for_each_mut_below.Goals as goal

pub invariant_of-self : goal.invariant_of-self
invariant_of-self g c = keys_keep _ c.self.inside.map c.for_each_mut_below.new.self c.for_each_mut_below.ensures.keys c.self.invariant

pub returns-clause-pairs : goal.returns-clause-pairs
returns-clause-pairs g c =
    let new = c.for_each_mut_below.new in
    let text = g.K.StringBytes.text in
    let known = keys_keep _ c.self.inside.map new.self c.for_each_mut_below.ensures.keys c.self.invariant in
    let before =
    below_strings _ g.K.AsBytes.bytes text c.args.prefix.now c.beginning.result.now c.beginning.ensures.begins c.self.inside.map c.self.invariant
    ∙ ap (strings_below text (text c.args.prefix.now)) c.self.view_is in
    let after = below_strings _ g.K.AsBytes.bytes text c.args.prefix.now c.beginning.result.now c.beginning.ensures.begins new.self known in
    subst (λ pairs. ChangesPairs g.F.FnMut c.args.f.now pairs (strings_below text (text c.args.prefix.now) new.self) new.f) before
    (subst (λ pairs. ChangesPairs g.F.FnMut c.args.f.now
    (below (of_key g.K.AsBytes.bytes) c.beginning.result.now c.self.inside.map) pairs new.f) after c.for_each_mut_below.ensures.pairs)

pub returns-clause-others : goal.returns-clause-others
returns-clause-others g c =
    let new = c.for_each_mut_below.new in
    let text = g.K.StringBytes.text in
    let known = keys_keep _ c.self.inside.map new.self c.for_each_mut_below.ensures.keys c.self.invariant in
    sym (not_below_strings _ g.K.AsBytes.bytes text c.args.prefix.now c.beginning.result.now c.beginning.ensures.begins new.self known)
    ∙ c.for_each_mut_below.ensures.others
    ∙ not_below_strings _ g.K.AsBytes.bytes text c.args.prefix.now c.beginning.result.now c.beginning.ensures.begins c.self.inside.map c.self.invariant
    ∙ ap (strings_not_below text (text c.args.prefix.now)) c.self.view_is
