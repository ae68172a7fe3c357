use Rattle.std.proofs.Common.{rules, refl, ap, ap₂, sym, ◌∙◌, subst}
use Rattle.std.specs.FinMap as map
use Rattle.art_model.specs.Prelude.{with_child, childless, with_child_at}
use Rattle.art_writing.specs.ParentWrites.{HasChild}
use Rattle.art_reading.specs.PathSteps.{last_step, root_with}
use Rattle.art_writing.proofs.Larger.{child_stays}
use Rattle.art_writing.proofs.insert.InsertPoint.place_branch.Goals as goal

pub replace_at-new_root-requires : goal.replace_at-new_root-requires
replace_at-new_root-requires g c = (
  search rules,
  subst (λ m. HasChild m (last_step c.args.self.path)) (sym c.place_two-parent.ensures.placed)
      (child_stays c.place_between-leaf.new.store.inners c.place_two-parent.result _ (last_step c.args.self.path) c.place_two-parent.ensures.fresh
      (subst (λ m. HasChild m (last_step c.args.self.path)) (sym c.place_between-leaf.ensures.inners) c.requires.parent)),
)

pub returns-clause-placed : goal.returns-clause-placed
returns-clause-placed g c =
    let branch = c.args.branch in
    let node = c.place_two-parent.result in
    record {
      node = node;
      kind = c.place_two-parent.ensures.kind;
      node_was_free = ap (λ m. map.get m node) (sym c.place_between-leaf.ensures.inners) ∙ c.place_two-parent.ensures.fresh;
      leaf_was_free = c.place_between-leaf.ensures.fresh;
      leaves = c.replace_at-new_root.ensures.leaves ∙ c.place_two-parent.ensures.leaves ∙ c.place_between-leaf.ensures.leaves;
      inners = c.replace_at-new_root.ensures.inners ∙ ap₂ (with_child_at (last_step c.args.self.path)) c.to_opaque-2.ensures
          (c.place_two-parent.ensures.placed ∙ ap₂
          (λ m name. map.insert m node (with_child branch.new_byte name (with_child branch.old_byte c.args.old (childless branch.header))))
          c.place_between-leaf.ensures.inners c.to_opaque.ensures);
      existing = refl;
      change = refl;
      root = c.replace_at-new_root.ensures.root ∙ ap (root_with c.args.self.path c.args.self.root) c.to_opaque-2.ensures;
    }
