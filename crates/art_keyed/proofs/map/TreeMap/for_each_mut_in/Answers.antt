use Rattle.std.proofs.Common.{ap, subst, sym, ◌∙◌}
use Rattle.std.specs.Range.Bound.{bound_map}
use Rattle.art_model.specs.Pairs.{of_key}
use Rattle.art_model.specs.Parts.{between}
use Rattle.art_map.specs.MapCalls.{ChangesPairs}
use Rattle.art_keyed.specs.KeyedPairs.{keys_between}
use Rattle.art_keyed.specs.KeyedParts.{keys_not_between}
use Rattle.art_keyed.proofs.KeyRanges.{between_keys}
use Rattle.art_keyed.proofs.Parted.{not_between_keys}
use Rattle.art_keyed.proofs.KeptByAll.{keys_keep}
use Rattle.art_keyed.proofs.map.TreeMap.for_each_mut_in.Goals as goal

pub invariant_of-self : goal.invariant_of-self
invariant_of-self g c = keys_keep _ c.self.inside.map c.for_each_mut_in.new.self c.for_each_mut_in.ensures.keys c.self.invariant

pub returns-clause-pairs : goal.returns-clause-pairs
returns-clause-pairs g c =
    let new = c.for_each_mut_in.new in
    let bytes = g.K.AsBytes.bytes in
    let those = keys_between g.K.OrderedBytes.order (bound_map (λ b. b.now) c.args.from) (bound_map (λ b. b.now) c.args.to) in
    let known = keys_keep _ c.self.inside.map new.self c.for_each_mut_in.ensures.keys c.self.invariant in
    let same =
    between_keys _ bytes g.met.K.OrderedBytes.keeps_order c.args.from c.args.to _ _ c.bytes_of.ensures.bytes
    c.bytes_of-2.ensures.bytes c.bytes_of.ensures.key c.bytes_of-2.ensures.key in
    let before = same c.self.inside.map c.self.invariant ∙ ap those c.self.view_is in
    subst (λ pairs. ChangesPairs g.F.FnMut c.args.f.now pairs (those new.self) new.f) before
    (subst (λ pairs. ChangesPairs g.F.FnMut c.args.f.now
    (between (of_key bytes) (bound_map (λ b. b.now) c.bytes_of.result) (bound_map (λ b. b.now) c.bytes_of-2.result) c.self.inside.map)
    pairs new.f) (same new.self known) c.for_each_mut_in.ensures.pairs)

pub returns-clause-others : goal.returns-clause-others
returns-clause-others g c =
    let new = c.for_each_mut_in.new in
    let known = keys_keep _ c.self.inside.map new.self c.for_each_mut_in.ensures.keys c.self.invariant in
    let same =
    not_between_keys _ g.K.AsBytes.bytes g.met.K.OrderedBytes.keeps_order c.args.from c.args.to _ _ c.bytes_of.ensures.bytes
    c.bytes_of-2.ensures.bytes c.bytes_of.ensures.key c.bytes_of-2.ensures.key in
    sym (same new.self known)
    ∙ c.for_each_mut_in.ensures.others
    ∙ same c.self.inside.map c.self.invariant
    ∙ ap (keys_not_between g.K.OrderedBytes.order (bound_map (λ b. b.now) c.args.from) (bound_map (λ b. b.now) c.args.to)) c.self.view_is
