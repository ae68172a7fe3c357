use Rattle.std.proofs.Common.{Some, None, ap, rules, sym, ◌∙◌}
use Rattle.std.specs.Option.{option_map}
use Rattle.art_model.specs.Prelude.{of_key, pair_of}
use Rattle.art_operations.proofs.CallerLemmas.{both_changed, both_turned, root_of_first}
use Rattle.uses.specs.Leases.{is_due}
use Rattle.uses.proofs.Both.{first_named}
use Rattle.uses.proofs.Due.{due_first, end_at, none_due}
use Rattle.uses.proofs.leases.take_due.Goals as goal

pub find_minimum_to_delete-point-requires : goal.find_minimum_to_delete-point-requires
find_minimum_to_delete-point-requires g c =
    let (ids, ends, h) = c.requires in (search rules, root_of_first (both_turned h) c.in-Some.is)

pub returns-clause-taken : goal.returns-clause-taken
returns-clause-taken g c ids ends h =
    let at = first_named (of_key g.K.AsBytes.bytes) g.row.P c.args.store.now c.args.roots.by_end c.args.roots.by_id c.in-Some.root ends ids c.in-Some.is (both_turned h) in
    let (layout, is) = at.one in
    let done = rw c.unwrap-done.ensures at c.apply.ensures.applied in
    both_turned (both_changed at (done.first ends layout is (c.find_minimum_to_delete-point.ensures.pair ends layout is)) done.apart)

pub returns-clause-left : goal.returns-clause-left
returns-clause-left g c = let (ids, ends, h) = c.requires in (ids, _, returns-clause-taken g c ids ends h)

pub returns-clause-first : goal.returns-clause-first
returns-clause-first g c ids ends h =
    let B = of_key {V = g.row.V.Denot} g.K.AsBytes.bytes in
    let here = ap (option_map pair_of) c.in-Some-leaf.ensures in
    let done = rw c.unwrap-done.ensures at c.apply.ensures.applied in
    let due = ap (is_due c.args.now.now) (sym (c.as_bytes.ensures ∙ ap g.K.AsBytes.bytes c.key_ref.ensures)) ∙ sym c.if-not-is_due.ensures in
    let found = due_first B c.args.now.now ends _ (sym (here ∙ end_at ids ends h c.in-Some.is c.find_minimum_to_delete-point.ensures)) due in
    ap (option_map (λ lease. lease.0)) (sym done.pair ∙ sym here ∙ sym found)

pub returns-in_default-leaf-clause-first : goal.returns-in_default-leaf-clause-first
returns-in_default-leaf-clause-first g c ids ends h =
    let pair = ap (option_map pair_of) c.in_default-leaf.ensures ∙ end_at ids ends h c.in-Some.is c.find_minimum_to_delete-point.ensures in
    let none = none_due (of_key g.K.AsBytes.bytes) c.args.now.now ends None pair tt in
    ap (option_map (λ lease. lease.0)) (sym none)

pub returns-then-not-is_due-clause-first : goal.returns-then-not-is_due-clause-first
returns-then-not-is_due-clause-first g c ids ends h =
    let pair = ap (option_map pair_of) c.in-Some-leaf.ensures ∙ end_at ids ends h c.in-Some.is c.find_minimum_to_delete-point.ensures in
    let later = ap (is_due c.args.now.now) (sym (c.as_bytes.ensures ∙ ap g.K.AsBytes.bytes c.key_ref.ensures)) ∙ sym c.if-not-is_due.ensures in
    let none = none_due (of_key g.K.AsBytes.bytes) c.args.now.now ends (Some (pair_of c.in-Some-leaf.first.now)) pair later in
    ap (option_map (λ lease. lease.0)) (sym none)
