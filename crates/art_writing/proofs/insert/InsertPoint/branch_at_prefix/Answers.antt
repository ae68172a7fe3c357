use Rattle.std.proofs.Common.{rules, refl, sym, ◌∙◌}
use Rattle.art_writing.proofs.BranchReads.{end_full, inner_named, inner_branch}
use Rattle.art_writing.proofs.insert.InsertPoint.branch_at_prefix.Goals as goal

pub branch_above-requires : goal.branch_above-requires
branch_above-requires g c =
    let (pairs, layout, by, at) = c.requires.answers in
    (search rules, (search rules, (at.node, end_full by at (inner_named by at c.requires.point ∙ sym c.to_opaque.ensures))))

pub returns-clause-branch : goal.returns-clause-branch
returns-clause-branch g c pairs layout by at =
    inner_branch by at c.requires.point refl refl c.branch_above.ensures.header c.branch_above.ensures.old_byte c.branch_above.ensures.new_byte refl
    (c.branch_above.ensures.beside at.node (end_full by at (inner_named by at c.requires.point ∙ sym c.to_opaque.ensures)))
