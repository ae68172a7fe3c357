use Rattle.std.proofs.Common.{rules, ◌≤◌, length, refl, ap, sym, ◌∙◌, arith}
use Rattle.art_writing.proofs.BranchReads.{end_full, leaf_met, leaf_named, leaf_bounds, leaf_branch}
use Rattle.art_writing.proofs.insert.InsertPoint.branch_at_leaf.Goals as goal

pub leaf_at-leaf-requires : goal.leaf_at-leaf-requires
leaf_at-leaf-requires g c =
    let (pairs, layout, by, at) = c.requires.answers in
    (search rules, leaf_met by at c.requires.point)

pub slice_bounds-part-count : goal.slice_bounds-part-count
slice_bounds-part-count g c =
    let (pairs, layout, by, at) = c.requires.answers in
    (leaf_bounds by at c.requires.point (sym c.leaf_at-leaf.ensures)).0

pub slice_bounds-part-start : goal.slice_bounds-part-start
slice_bounds-part-start g c =
    let (pairs, layout, by, at) = c.requires.answers in
    let fits : c.args.self.key_bytes_used ≤ c.args.new_key_bytes_used = (leaf_bounds by at c.requires.point (sym c.leaf_at-leaf.ensures)).0 in
    fits

pub slice_bounds-part-end : goal.slice_bounds-part-end
slice_bounds-part-end g c =
    let (pairs, layout, by, at) = c.requires.answers in
    let bounds = leaf_bounds by at c.requires.point (sym c.leaf_at-leaf.ensures) in
    let fits : c.args.new_key_bytes_used ≤ length c.args.key_bytes.now = let l = bounds.1 in omega arith in
    fits

pub bounds-as_bytes-new_key_bytes_used : goal.bounds-as_bytes-new_key_bytes_used
bounds-as_bytes-new_key_bytes_used g c =
    let (pairs, layout, by, at) = c.requires.answers in
    let bounds = leaf_bounds by at c.requires.point (sym c.leaf_at-leaf.ensures) in
    let l = bounds.2 in let t = ap length c.as_bytes.ensures in omega arith

pub bounds-key_bytes-new_key_bytes_used : goal.bounds-key_bytes-new_key_bytes_used
bounds-key_bytes-new_key_bytes_used g c =
    let (pairs, layout, by, at) = c.requires.answers in
    (leaf_bounds by at c.requires.point (sym c.leaf_at-leaf.ensures)).1

pub branch_above-requires : goal.branch_above-requires
branch_above-requires g c =
    let (pairs, layout, by, at) = c.requires.answers in
    (search rules, (search rules, (at.node, end_full by at (leaf_named by at c.requires.point ∙ sym c.to_opaque.ensures))))

pub returns : goal.returns
returns g c pairs layout by at =
    leaf_branch by at c.requires.point (sym c.leaf_at-leaf.ensures)
    c.as_bytes.ensures refl c.branch_above.ensures.header c.branch_above.ensures.old_byte c.branch_above.ensures.new_byte refl refl
    (c.branch_above.ensures.beside at.node (end_full by at (leaf_named by at c.requires.point ∙ sym c.to_opaque.ensures)))
