use Rattle.std.proofs.Common.{rules, ◌∙◌}
use Rattle.art_model.specs.Prelude.{of_key}
use Rattle.art_model.proofs.stores.StoreLaws.{has_children}
use Rattle.art_map.proofs.Compacted.{can_sort, still_holds}
use Rattle.art_changing.proofs.MapPuts.{at_some}
use Rattle.art_changing.proofs.ViewsOfPairs.{holds, view_of}
use Rattle.art_map.proofs.map.ByteMap.compact.Goals as goal

pub minimum_unchecked-first-requires : goal.minimum_unchecked-first-requires
minimum_unchecked-first-requires g c =
    let has = at_some c.in-Some.is c.self.invariant in
    (search rules, (has.layout, has_children _ _ _ _ _ has.layout has.by))

pub sort_leaves-requires : goal.sort_leaves-requires
sort_leaves-requires g c = (search rules, can_sort c.in-Some.is c.self.invariant c.minimum_unchecked-first.ensures)

pub invariant_of-self : goal.invariant_of-self
invariant_of-self g c =
    let sorted = c.sort_leaves.ensures in
    holds (of_key g.K.AsBytes.bytes) g.row.P c.sort_leaves.new.self
    (still_holds c.in-Some.is c.self.invariant c.minimum_unchecked-first.ensures c.in-Inner.field-0 c.in-Inner.ensures.name
    c.in-Inner.ensures.proper c.sort_leaves.result
    sorted.renamed sorted.refused)

pub returns-in-Inner : goal.returns-in-Inner
returns-in-Inner g c =
    let sorted = c.sort_leaves.ensures in
    let still = view_of (of_key g.K.AsBytes.bytes) g.row.P c.sort_leaves.new.self
    (still_holds c.in-Some.is c.self.invariant c.minimum_unchecked-first.ensures c.in-Inner.field-0 c.in-Inner.ensures.name
    c.in-Inner.ensures.proper c.sort_leaves.result
    sorted.renamed sorted.refused) in
    record { same = still ∙ c.self.view_is }
