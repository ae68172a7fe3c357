use Rattle.std.proofs.Common.{Some, ap, sym, ◌∙◌, subst, rules}
use Rattle.art_model.specs.Prelude.{IsThere, change_some, with_leaf, with_next, with_previous}
use Rattle.art_model.proofs.leaves.Leaves.{there_changed}
use Rattle.art_writing.proofs.LeafWrites.{there_placed}
use Rattle.art_writing.proofs.writes.place_between.Goals as goal

pub set_beside-requires : goal.set_beside-requires
set_beside-requires g c =
    let placed = rw c.unwrap-name.ensures at c.place_leaf.ensures.placed in (
      search rules,
      subst (λ m. IsThere m c.args.previous) (sym placed)
          (there_placed c.args.store.now.leaves c.unwrap-name.result _ c.args.previous c.requires.previous),
    )

pub set_beside-requires-2 : goal.set_beside-requires-2
set_beside-requires-2 g c =
    let placed = rw c.unwrap-name.ensures at c.place_leaf.ensures.placed in (
      search rules,
      subst (λ m. IsThere m c.args.next) (sym (c.set_beside.ensures.leaves
          ∙ ap (λ m. change_some m c.args.previous (with_next (Some c.unwrap-name.result))) placed))
          (there_changed _ c.args.previous c.args.next (with_next (Some c.unwrap-name.result))
          (there_placed c.args.store.now.leaves c.unwrap-name.result _ c.args.next c.requires.next)),
    )

pub returns-clause-leaves : goal.returns-clause-leaves
unfolding with_leaf
returns-clause-leaves g c =
    let placed = rw c.unwrap-name.ensures at c.place_leaf.ensures.placed in
    c.set_beside-2.ensures.leaves
    ∙ ap (λ m. change_some m c.args.next (with_previous (Some c.unwrap-name.result)))
    (c.set_beside.ensures.leaves ∙ ap (λ m. change_some m c.args.previous (with_next (Some c.unwrap-name.result))) placed)
