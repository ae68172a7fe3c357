use Rattle.std.proofs.Common.{◌∙◌, ap, sym, subst, rules}
use Rattle.art_model.specs.Prelude.{IsThere, change_some, with_next, with_previous}
use Rattle.art_model.proofs.leaves.Leaves.{there_changed}
use Rattle.art_copying.proofs.links.link.Goals as goal

pub set_beside-requires-2 : goal.set_beside-requires-2
set_beside-requires-2 g c = (
  search rules,
  subst (λ m. IsThere m c.args.next) (sym c.set_beside.ensures.leaves)
      (there_changed c.args.store.now.leaves c.args.previous c.args.next (with_next c.args.next) c.requires.next),
)

pub returns-clause-leaves : goal.returns-clause-leaves
returns-clause-leaves g c =
    c.set_beside-2.ensures.leaves ∙ ap (λ leaves. change_some leaves c.args.next (with_previous c.args.previous)) c.set_beside.ensures.leaves
