use Rattle.art_writing.proofs.delete.below.search_for_prefix_delete_point.Goals as goal

pub returns-in_err-all-clause-point : goal.returns-in_err-all-clause-point
returns-in_err-all-clause-point g c pairs layout by =
    rw c.from_residual.ensures (c.in_err-all.ensures pairs layout by)

pub returns-clause-point : goal.returns-clause-point
returns-clause-point g c pairs layout by = (c.in_ok-all.ensures pairs layout by).0

pub returns-clause-applies : goal.returns-clause-applies
returns-clause-applies g c =
    let (pairs, layout, by) = c.requires in
    (pairs, layout, by, (c.in_ok-all.ensures pairs layout by).0.at)
