use Rattle.std.proofs.Common.{◌≡◌, ap, sym, ◌∙◌}
use Rattle.art_model.specs.Prelude.{change_some}
use Rattle.art_copying.specs.Directions.{with_beside}
use Rattle.art_copying.proofs.ChangesAgree.{change_as}
use Rattle.art_copying.proofs.links.set_beside.Goals.{in-Before, in-After}
use Rattle.art_copying.proofs.links.set_beside.Goals as goal

pub returns-clause-leaves : goal.returns-clause-leaves
returns-clause-leaves g c =
    let node = c.leaf_at-node.result.now in
    let links = c.match-side.previous in
    let linked : record node { previous = links.0; next = links.1 } ≡ with_beside c.args.side c.args.other node =
    elim c.match-side.branch [
      | in-Before w ↦ rw w.previous-is (ap (λ z. with_beside z c.args.other node) (sym w.in-Before.is))
      | in-After w ↦ rw w.previous-is (ap (λ z. with_beside z c.args.other node) (sym w.in-After.is))
    ] in
    c.set_links.ensures.leaves
    ∙ change_as c.args.store.now.leaves c.in-Some.leaf _ (with_beside c.args.side c.args.other) node c.leaf_at-node.ensures linked
    ∙ sym (ap (λ o. change_some c.args.store.now.leaves o (with_beside c.args.side c.args.other)) c.in-Some.is)
