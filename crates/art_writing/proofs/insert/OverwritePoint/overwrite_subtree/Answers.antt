use Rattle.std.proofs.Common.{◌∙◌, ap, refl, rules, sym, subst, IsTrue, None}
use Rattle.art_model.specs.Prelude.{SameNodes, LeafNode, is_covered}
use Rattle.art_reading.specs.PathSteps.{root_with}
use Rattle.art_writing.proofs.Applied.{granted, handed_back, overwritten}
use Rattle.art_writing.proofs.Reserved.{after_reserve, leaf_promised, not_granted, not_refused, was_refused}
use Rattle.art_writing.proofs.Overwrites.{end_parent, end_still, ends_there, placed_for_inner, put_at, read_next, read_previous, subtree_at, subtree_overwritten, subtree_still}
use Rattle.art_writing.proofs.insert.OverwritePoint.overwrite_subtree.Goals as goal

pub returns-then-is_err-clause-memory : goal.returns-then-is_err-clause-memory
returns-then-is_err-clause-memory g c =
    handed_back (λ covered. not_granted c.reserve.result (sym c.is_err.ensures.value ∙ c.if-is_err.true) c.reserve.ensures.succeeds
    (subst (λ placed. IsTrue (is_covered placed c.args.store.now.promise)) (placed_for_inner _ c.requires.inner) covered))
    c.reserve.ensures.leaves c.reserve.ensures.inners (was_refused c.reserve.result (sym c.is_err.ensures.value ∙ c.if-is_err.true) c.reserve.ensures.refused)

pub place_between-leaf_node_ptr-requires : goal.place_between-leaf_node_ptr-requires
place_between-leaf_node_ptr-requires g c = (
  search rules,
  (
    leaf_promised c.reserve.new.self.promise None (not_refused c.reserve.result (sym c.is_err.ensures.value ∙ c.if-is_err.false) c.reserve.ensures.reserved),
    ends_there c.requires.answers c.requires.inner c.reserve.new.self
        (c.reserve.ensures.leaves, c.reserve.ensures.inners) c.links_around-previous.result.0 c.links_around-previous.result.1
        c.links_around-previous.ensures.previous c.links_around-previous.ensures.next,
  ),
)

pub replace_at-new_root-requires : goal.replace_at-new_root-requires
replace_at-new_root-requires g c = (
  search rules,
  end_parent c.requires.answers c.requires.inner c.reserve.new.self (c.reserve.ensures.leaves, c.reserve.ensures.inners)
      c.place_between-leaf_node_ptr.new.store c.place_between-leaf_node_ptr.ensures.inners,
)

pub deallocate_tree-leafs_removed-requires : goal.deallocate_tree-leafs_removed-requires
deallocate_tree-leafs_removed-requires g c =
    let same : SameNodes c.args.store.now c.reserve.new.self = (c.reserve.ensures.leaves, c.reserve.ensures.inners) in (
      search rules,
      end_still c.requires.answers c.requires.inner c.reserve.new.self same
          (put_at c.reserve.new.self c.place_between-leaf_node_ptr.new.store c.replace_at-new_root.new.store
          _ same c.place_between-leaf_node_ptr.ensures.fresh c.place_between-leaf_node_ptr.ensures.leaves
          c.place_between-leaf_node_ptr.ensures.inners c.to_opaque.ensures c.replace_at-new_root.ensures.leaves c.replace_at-new_root.ensures.inners),
    )

pub returns-clause-applied : goal.returns-clause-applied
returns-clause-applied g c =
    overwritten c.requires.answers (λ pairs layout by.
    let same : SameNodes c.args.store.now c.reserve.new.self = (c.reserve.ensures.leaves, c.reserve.ensures.inners) in
    let at = subtree_at c.requires.answers c.requires.inner by in
    let x : LeafNode g.row.K.Denot g.row.V.Denot =
    record {
      key = c.args.key;
      value = c.args.value;
      previous = c.links_around-previous.result.0;
      next = c.links_around-previous.result.1;
    } in
    let put = put_at c.reserve.new.self c.place_between-leaf_node_ptr.new.store c.replace_at-new_root.new.store x
    same c.place_between-leaf_node_ptr.ensures.fresh c.place_between-leaf_node_ptr.ensures.leaves
    c.place_between-leaf_node_ptr.ensures.inners c.to_opaque.ensures c.replace_at-new_root.ensures.leaves c.replace_at-new_root.ensures.inners in
    let still = subtree_still by at put in
    subtree_overwritten by at put refl (read_previous by at c.links_around-previous.result.0 c.links_around-previous.ensures.previous)
    (read_next by at c.links_around-previous.result.1 c.links_around-previous.ensures.next) (c.deallocate_tree-leafs_removed.ensures.freed at.node still)
    c.replace_at-new_root.result c.deallocate_tree-leafs_removed.result
    (c.replace_at-new_root.ensures.root ∙ ap (λ z. root_with c.args.self.path c.args.self.root z) c.to_opaque.ensures)
    (c.deallocate_tree-leafs_removed.ensures.count at.node still) c.requires.inner)

pub returns-clause-memory : goal.returns-clause-memory
returns-clause-memory g c =
    granted
    (c.deallocate_tree-leafs_removed.ensures.promise ∙ c.replace_at-new_root.ensures.promise ∙ c.place_between-leaf_node_ptr.ensures.promise
    ∙ after_reserve c.args.store.now c.reserve.new.self None c.reserve.result
    (sym c.is_err.ensures.value ∙ c.if-is_err.false) c.reserve.ensures.covered c.reserve.ensures.granted
    (sym (placed_for_inner _ c.requires.inner)))
