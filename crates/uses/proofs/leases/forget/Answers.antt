use Rattle.std.proofs.Common.{rules, subst, sym}
use Rattle.art_model.specs.Apart.{HasBoth}
use Rattle.art_model.specs.Pairs.{of_key}
use Rattle.art_operations.proofs.CallerLemmas.{both_changed, both_same, root_of_first}
use Rattle.art_writing.proofs.KeysFound.{removes_none}
use Rattle.uses.proofs.Both.{first_named}
use Rattle.uses.proofs.leases.forget.Goals as goal

pub take-requires : goal.take-requires
take-requires g c = let (ids, ends, h) = c.requires in (search rules, root_of_first h c.in-Some.is)

pub returns-clause-forgotten : goal.returns-clause-forgotten
returns-clause-forgotten g c ids ends h =
    let at = first_named (of_key g.K.AsBytes.bytes) g.row.P c.args.store.now c.args.roots.by_id c.args.roots.by_end c.in-Some.root ids ends c.in-Some.is h in
    let (layout, is) = at.one in
    both_changed at (c.in-Some-take.ensures.pairs ids layout is) c.in-Some-take.ensures.apart

pub returns-clause-left : goal.returns-clause-left
returns-clause-left g c = let (ids, ends, h) = c.requires in (_, ends, returns-clause-forgotten g c ids ends h)

pub returns-in_default-take-clause-forgotten : goal.returns-in_default-take-clause-forgotten
returns-in_default-take-clause-forgotten g c ids ends h =
    let B = of_key {V = g.row.V.Denot} g.K.AsBytes.bytes in
    let at = first_named B g.row.P c.args.store.now c.args.roots.by_id c.args.roots.by_end c.in-Some.root ids ends c.in-Some.is h in
    let (layout, is) = at.one in
    let same = removes_none B c.args.id.now ids (c.in_default-take.ensures.taken ids layout is) in
    subst (λ left. HasBoth B g.row.P c.take.new.store c.args.roots.by_id c.args.roots.by_end left ends) (sym same)
    (both_same B g.row.P c.args.store.now c.take.new.store c.in_default-take.ensures.leaves c.in_default-take.ensures.inners
    c.args.roots.by_id c.args.roots.by_end h)

pub returns-in_default-take-clause-left : goal.returns-in_default-take-clause-left
returns-in_default-take-clause-left g c =
    let (ids, ends, h) = c.requires in (_, ends, returns-in_default-take-clause-forgotten g c ids ends h)
