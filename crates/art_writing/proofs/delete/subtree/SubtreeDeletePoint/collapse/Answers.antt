use Rattle.std.proofs.Common.{rules, ap, sym, ◌∙◌, Some, arith}
use Rattle.art_model.specs.Prelude.{leaf_name, shape_of, with_links_around, with_child_at}
use Rattle.art_reading.specs.PathSteps.{last_step, root_with}
use Rattle.art_writing.proofs.Deletions.{leaf_at}
use Rattle.art_copying.proofs.FreedTrees.{all_can, all_counted, all_go}
use Rattle.art_writing.proofs.SubtreePointLemmas.{above_ready, collapsed_below, collapsed_leaf, count_fits, first_below, first_there, is_leaf}
use Rattle.art_writing.proofs.SubtreePointLemmas.{leads_to_one, next_is, next_there, node_full, parent_there, rest, rest_there, up_same}
use Rattle.art_writing.proofs.Ways.{root_with-path_of}
use Rattle.art_writing.proofs.delete.subtree.SubtreeDeletePoint.collapse.Goals as goal

pub walk_to_end-path-requires : goal.walk_to_end-path-requires
walk_to_end-path-requires g c = let (pairs, layout, by, at) = c.requires in (search rules, (at.node, node_full by at))

pub returns-in_default-clause-collapsed : goal.returns-in_default-clause-collapsed
returns-in_default-clause-collapsed g c pairs layout by at =
    let full = node_full by at in
    let (x, is) = is_leaf c.args.store.now full.0.holds (c.walk_to_end-path.ensures at.node full) (sym c.last_step.ensures ∙ c.in_default.is) in
    collapsed_leaf by at x is

pub links_beside-next-requires : goal.links_beside-next-requires
links_beside-next-requires g c = let (pairs, layout, by, at) = c.requires in (search rules, (at.node, node_full by at))

pub remove_child-requires : goal.remove_child-requires
remove_child-requires g c =
    let (pairs, layout, by, at) = c.requires in
    let full = node_full by at in (
      search rules,
      parent_there by at (first_below c.args.store.now full.0.holds (c.walk_to_end-path.ensures at.node full)
          (sym c.last_step.ensures ∙ c.in-Some.is)),
    )

pub link-requires : goal.link-requires
link-requires g c =
    let (pairs, layout, by, at) = c.requires in
    let full = node_full by at in
    let first = first_below c.args.store.now full.0.holds (c.walk_to_end-path.ensures at.node full) (sym c.last_step.ensures ∙ c.in-Some.is) in
    let next = c.links_beside-next.result in (
      search rules,
      rw c.remove_child.ensures.leaves
          (first_there by at first, next_there by at next.1 (next_is by at next.0 next.1 (c.links_beside-next.ensures at.node full))),
    )

pub replace_at-new_root-requires : goal.replace_at-new_root-requires
replace_at-new_root-requires g c =
    let (pairs, layout, by, at) = c.requires in
    let full = node_full by at in
    let first = first_below c.args.store.now full.0.holds (c.walk_to_end-path.ensures at.node full) (sym c.last_step.ensures ∙ c.in-Some.is) in
    (search rules, rw (c.link.ensures.inners, c.remove_child.ensures.inners) (above_ready by at _ (up_same by at first)))

pub free_nodes-others-requires : goal.free_nodes-others-requires
free_nodes-others-requires g c =
    let (pairs, layout, by, at) = c.requires in
    let full = node_full by at in
    let first = first_below c.args.store.now full.0.holds (c.walk_to_end-path.ensures at.node full) (sym c.last_step.ensures ∙ c.in-Some.is) in
    let next = c.links_beside-next.result in
    let n = c.walk_to_end-path.result.1 in
    let leaves = c.replace_at-new_root.ensures.leaves ∙ c.link.ensures.leaves
    ∙ ap (λ m. with_links_around m (Some n) next.1 next.1 (Some n)) c.remove_child.ensures.leaves in
    let inners = c.replace_at-new_root.ensures.inners
    ∙ ap (with_child_at (last_step c.args.self.path) c.to_opaque.result) (c.link.ensures.inners ∙ c.remove_child.ensures.inners) in (
      search rules,
      (
        shape_of (rest by at first),
        all_can (rest_there by at first c.replace_at-new_root.new.store next.0 next.1
            (c.links_beside-next.ensures at.node full) leaves inners c.to_opaque.ensures),
      ),
    )

pub overflow_add-result : goal.overflow_add-result
overflow_add-result g c =
    let (pairs, layout, by, at) = c.requires in
    let full = node_full by at in
    let first = first_below c.args.store.now full.0.holds (c.walk_to_end-path.ensures at.node full) (sym c.last_step.ensures ∙ c.in-Some.is) in
    let next = c.links_beside-next.result in
    let n = c.walk_to_end-path.result.1 in
    let w = c.replace_at-new_root.new.store in
    let beside = c.links_beside-next.ensures at.node full in
    let leaves = c.replace_at-new_root.ensures.leaves ∙ c.link.ensures.leaves
    ∙ ap (λ m. with_links_around m (Some n) next.1 next.1 (Some n)) c.remove_child.ensures.leaves in
    let inners = c.replace_at-new_root.ensures.inners
    ∙ ap (with_child_at (last_step c.args.self.path) c.to_opaque.result) (c.link.ensures.inners ∙ c.remove_child.ensures.inners) in
    let left = rest by at first in
    let can = all_can (rest_there by at first w next.0 next.1 beside leaves inners c.to_opaque.ensures) in
    let root = c.replace_at-new_root.ensures.root ∙ ap (root_with c.args.self.path c.args.root) c.to_opaque.ensures
    ∙ ap (λ p. root_with p c.args.root (leaf_name n)) at.path_is
    ∙ root_with-path_of at.path c.args.root (leaf_name n) in
    let done = collapsed_below by at first w next.0 next.1 beside leaves inners c.to_opaque.ensures
    (all_go left (c.free_nodes-others.ensures.freed (shape_of left) can)) root
    (all_counted left c.free_nodes-others.result (c.free_nodes-others.ensures.count (shape_of left) can)) in
    let (y, here, pair) = leaf_at done.canonical (leads_to_one by at done) in
    let fits =
    count_fits c.free_nodes-others.new.store n y c.free_nodes-others.result _ here c.free_nodes-others.ensures.total
    c.free_nodes-others.ensures.few in
    omega arith

pub returns-clause-collapsed : goal.returns-clause-collapsed
returns-clause-collapsed g c pairs layout by at =
    let full = node_full by at in
    let first = first_below c.args.store.now full.0.holds (c.walk_to_end-path.ensures at.node full) (sym c.last_step.ensures ∙ c.in-Some.is) in
    let next = c.links_beside-next.result in
    let n = c.walk_to_end-path.result.1 in
    let w = c.replace_at-new_root.new.store in
    let beside = c.links_beside-next.ensures at.node full in
    let leaves = c.replace_at-new_root.ensures.leaves ∙ c.link.ensures.leaves
    ∙ ap (λ m. with_links_around m (Some n) next.1 next.1 (Some n)) c.remove_child.ensures.leaves in
    let inners = c.replace_at-new_root.ensures.inners
    ∙ ap (with_child_at (last_step c.args.self.path) c.to_opaque.result) (c.link.ensures.inners ∙ c.remove_child.ensures.inners) in
    let left = rest by at first in
    let can = all_can (rest_there by at first w next.0 next.1 beside leaves inners c.to_opaque.ensures) in
    let root = c.replace_at-new_root.ensures.root ∙ ap (root_with c.args.self.path c.args.root) c.to_opaque.ensures
    ∙ ap (λ p. root_with p c.args.root (leaf_name n)) at.path_is
    ∙ root_with-path_of at.path c.args.root (leaf_name n) in
    let done = collapsed_below by at first w next.0 next.1 beside leaves inners c.to_opaque.ensures
    (all_go left (c.free_nodes-others.ensures.freed (shape_of left) can)) root
    (all_counted left c.free_nodes-others.result (c.free_nodes-others.ensures.count (shape_of left) can)) in
    done
