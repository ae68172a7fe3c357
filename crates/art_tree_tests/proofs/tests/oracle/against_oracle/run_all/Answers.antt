use Rattle.art_tree_tests.proofs.tests.oracle.against_oracle.run_all.Goals as goal
use Rattle.art_tree_tests.proofs.tests.oracle.against_oracle.run_all.Goals.{in-First, in-Second}

pub returns-in-Ok : goal.returns-in-Ok
returns-in-Ok g c =
    let canonical = c.in-Ok.ensures.canonical in
    elim c.match-done.branch [
      | in-First w ↦ rw w.first-is (rw w.in-First.is at canonical)
      | in-Second w ↦ rw (w.first-is, w.swap.ensures.x_after) (rw w.in-Second.is at canonical)
    ]
