use Rattle.std.proofs.Common.{drop}
use Rattle.ip_routes.specs.LookUps.{HasLineAt}
use Rattle.ip_routes.proofs.LookUpLemmas.{Continues}
use Rattle.ip_routes.proofs.answers.replies_at.Given as goal

abbrev pub invariant-loop-place : goal.invariant-loop-place
invariant-loop-place l =
    Continues (HasLineAt l.text) l.places (drop l.place-index l.places) l.replies.items
