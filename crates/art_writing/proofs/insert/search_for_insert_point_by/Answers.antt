use Rattle.std.proofs.Common.{ap, is_none, refl, sym, ◌∙◌}
use Rattle.std.proofs.lemmas.Bool.{false≢true}
use Rattle.art_writing.proofs.Points.{insert_point}
use Rattle.art_writing.proofs.insert.search_for_insert_point_by.Goals as goal

pub returns-in_err-insert_kind-clause-accepted : goal.returns-in_err-insert_kind-clause-accepted
returns-in_err-insert_kind-clause-accepted g c pairs layout by =
    let (conflict, has) = c.walk_to_end_node-end.ensures.end pairs layout by in
    rw c.from_residual.ensures
    (λ some. absurd (false≢true some), λ free. absurd (false≢true (sym free ∙ conflict ∙ ap is_none c.in_err-insert_kind.was)))

pub returns-clause-accepted : goal.returns-clause-accepted
returns-clause-accepted g c pairs layout by =
    (λ some. (insert_point by c.in_ok-insert_kind.was (c.walk_to_end_node-end.ensures.end pairs layout by)).0, λ free. refl)

pub returns-clause-point : goal.returns-clause-point
returns-clause-point g c pairs layout by = (insert_point by c.in_ok-insert_kind.was (c.walk_to_end_node-end.ensures.end pairs layout by)).1

pub returns-clause-applies : goal.returns-clause-applies
returns-clause-applies g c = let (pairs, layout, by) = c.requires in (pairs, layout, by, returns-clause-point g c pairs layout by)
