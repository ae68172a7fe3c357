use Rattle.std.proofs.Common.{rules, ◌∙◌, ap, sym, subst, Some, IsTrue}
use Rattle.art_model.specs.Prelude.{Node4, is_covered}
use Rattle.art_writing.specs.Inserted.{placed_for}
use Rattle.art_writing.proofs.Applied.{applied, granted, handed_back}
use Rattle.art_writing.proofs.BranchLemmas.{end_parent, previous_is_there, next_is_there, read_for}
use Rattle.art_writing.proofs.Reserved.{after_reserve, not_granted, was_refused}
use Rattle.art_writing.proofs.Standing.{tree_stays}
use Rattle.art_writing.proofs.Splits.{leaf_split}
use Rattle.art_writing.proofs.insert.InsertPoint.split_leaf.Goals as goal

pub returns-then-is_err-clause-memory : goal.returns-then-is_err-clause-memory
returns-then-is_err-clause-memory g c =
    handed_back (λ covered. not_granted c.reserve.result (sym c.is_err.ensures.value ∙ c.if-is_err.true) c.reserve.ensures.succeeds
    (subst (λ kind. IsTrue (is_covered (placed_for c.args.store.now kind) c.args.store.now.promise)) c.requires.point covered))
    c.reserve.ensures.leaves c.reserve.ensures.inners (was_refused c.reserve.result (sym c.is_err.ensures.value ∙ c.if-is_err.true) c.reserve.ensures.refused)

pub place_branch-requires : goal.place_branch-requires
place_branch-requires g c =
    let (pairs, layout, old, at) = c.requires.answers in
    let by = tree_stays {mid = c.reserve.new.self} (c.reserve.ensures.leaves, c.reserve.ensures.inners) old in
    let is = read_for c.as_bytes.ensures c.branch_at_leaf-branch.ensures pairs layout old at in
    (search rules, (search rules, (search rules, (previous_is_there by at is, (next_is_there by at is, end_parent by at)))))

pub returns-clause-applied : goal.returns-clause-applied
returns-clause-applied g c =
    applied g.K.AsBytes.bytes c.requires.answers (λ pairs layout by at.
    let is = read_for c.as_bytes.ensures c.branch_at_leaf-branch.ensures pairs layout by at in
    leaf_split by at is c.requires.point c.to_opaque-old.ensures (c.reserve.ensures.leaves, c.reserve.ensures.inners) c.place_branch.ensures.placed)

pub returns-clause-memory : goal.returns-clause-memory
returns-clause-memory g c =
    granted
    (c.place_branch.ensures.promise
    ∙ after_reserve c.args.store.now c.reserve.new.self (Some Node4) c.reserve.result
    (sym c.is_err.ensures.value ∙ c.if-is_err.false) c.reserve.ensures.covered c.reserve.ensures.granted
    (ap (placed_for c.args.store.now) (sym c.requires.point)))
