use Rattle.std.proofs.Common.{rules, ap, refl, sym, ◌∙◌}
use Rattle.art_model.specs.Prelude.{take_inner, with_child_at}
use Rattle.art_reading.specs.PathSteps.{last_step, up, root_with}
use Rattle.art_writing.proofs.RemovedLeaves.{IsSmaller, is_below, let_go, shrinks_fit, smaller_is, above_ready, parent_deleted}
use Rattle.art_writing.proofs.Deletions.{taken_out_with}
use Rattle.art_writing.proofs.delete.DeletePoint.shrink_parent.Goals as goal
use Rattle.art_writing.proofs.delete.DeletePoint.shrink_parent.Goals.{After-put_smaller-node}
use Rattle.art_writing.proofs.delete.DeletePoint.shrink_parent.Given.{Over}

smaller : (g : Over) (c : After-put_smaller-node g) → IsSmaller c.args.store.now c.put_smaller-node.new.self c.args.parent c.args.byte c.put_smaller-node.result
smaller g c = record { kind = c.put_smaller-node.ensures.kind; fresh = c.put_smaller-node.ensures.fresh; inners = c.put_smaller-node.ensures.inners }

pub put_smaller-node-requires : goal.put_smaller-node-requires
put_smaller-node-requires g c =
    let (pairs, layout, x, by, leads) = c.requires.answers in
    let (larger, fit) = shrinks_fit (is_below by leads c.requires.parent) c.args.store.now refl c.args.smaller c.requires.parent c.requires.shrinks in
    (search rules, (larger, fit))

pub replace_at-requires : goal.replace_at-requires
replace_at-requires g c =
    let (pairs, layout, x, by, leads) = c.requires.answers in
    let at = goal.at.replace_at-requires g c in (
      search rules,
      rw c.up.ensures (above_ready (is_below by leads c.requires.parent) c.args.store.now refl c.args.smaller c.requires.parent
          c.requires.shrinks (smaller g at.After-put_smaller-node)),
    )

pub returns : goal.returns
returns g c =
    let (pairs, layout, x, by, leads) = c.requires.answers in
    let at = goal.at.returns g c in
    let leaves = c.replace_at.ensures.leaves ∙ c.put_smaller-node.ensures.leaves in
    let_go (is_below by leads c.requires.parent) leaves (λ t done leaf. taken_out_with c.requires.answers
    (parent_deleted (is_below by leads c.requires.parent) c.args.store.now refl c.args.smaller c.requires.parent
    c.requires.shrinks (smaller g at.After-put_smaller-node) leaves
    (c.replace_at.ensures.inners ∙ ap (λ path. with_child_at (last_step path) c.to_opaque.result c.put_smaller-node.new.self.inners) c.up.ensures
    ∙ ap (λ name. with_child_at (last_step (up c.args.self.path)) name c.put_smaller-node.new.self.inners) c.to_opaque.ensures)
    (c.replace_at.ensures.root ∙ ap (λ path. root_with path c.args.root c.to_opaque.result) c.up.ensures
    ∙ ap (root_with (up c.args.self.path) c.args.root) c.to_opaque.ensures)
    leaf)
    c.args.smaller c.requires.shrinks
    (leaf.promise ∙ c.replace_at.ensures.promise ∙ c.put_smaller-node.ensures.promise
    ∙ ap (λ kind. take_inner kind c.args.store.now.promise) (sym (smaller_is c.args.parent.kind c.args.smaller c.requires.smaller).0)))
