use Rattle.std.proofs.Common.{rules, ap, sym, ◌∙◌, subst, Some, IsTrue}
use Rattle.art_model.specs.Prelude.{SameNodes, with_header, change, take_inner, take_leaf, Node4, IsThere, is_covered}
use Rattle.art_writing.specs.Inserted.{placed_for}
use Rattle.art_writing.proofs.Applied.{applied, granted, handed_back}
use Rattle.art_writing.proofs.BranchLemmas.{previous_is_there, next_is_there, read_for}
use Rattle.art_writing.proofs.Reserved.{after_reserve, not_granted, was_refused}
use Rattle.art_writing.proofs.Standing.{tree_stays}
use Rattle.art_writing.proofs.Splits.{parent_stays, prefix_split}
use Rattle.art_writing.proofs.insert.InsertPoint.split_prefix.Goals as goal

pub returns-then-is_err-clause-memory : goal.returns-then-is_err-clause-memory
returns-then-is_err-clause-memory g c =
    handed_back (λ covered. not_granted c.reserve.result (sym c.is_err.ensures.value ∙ c.if-is_err.true) c.reserve.ensures.succeeds
    (subst (λ kind. IsTrue (is_covered (placed_for c.args.store.now kind) c.args.store.now.promise)) c.requires.point covered))
    c.reserve.ensures.leaves c.reserve.ensures.inners (was_refused c.reserve.result (sym c.is_err.ensures.value ∙ c.if-is_err.true) c.reserve.ensures.refused)

pub place_branch-requires : goal.place_branch-requires
place_branch-requires g c =
    let (pairs, layout, by, at) = c.requires.answers in
    let same : SameNodes c.args.store.now c.reserve.new.self = (c.reserve.ensures.leaves, c.reserve.ensures.inners) in
    let is = read_for c.as_bytes.ensures c.branch_at_prefix-branch.ensures.branch pairs layout by at in (
      search rules,
      (
        search rules,
        (
          search rules,
          (
            subst (λ m. IsThere m c.branch_at_prefix-branch.result.previous) (sym c.set_header.ensures.leaves)
                (previous_is_there (tree_stays {mid = c.reserve.new.self} same by) at is),
            (
              subst (λ m. IsThere m c.branch_at_prefix-branch.result.next) (sym c.set_header.ensures.leaves)
                  (next_is_there (tree_stays {mid = c.reserve.new.self} same by) at is),
              parent_stays (tree_stays {mid = c.reserve.new.self} same by) at
                  c.trimmed_header-header.result c.requires.point c.set_header.ensures.inners,
            ),
          ),
        ),
      ),
    )

pub returns-clause-applied : goal.returns-clause-applied
returns-clause-applied g c =
    applied g.K.AsBytes.bytes c.requires.answers (λ pairs layout by at.
    let same : SameNodes c.args.store.now c.reserve.new.self = (c.reserve.ensures.leaves, c.reserve.ensures.inners) in
    let is = read_for c.as_bytes.ensures c.branch_at_prefix-branch.ensures.branch pairs layout by at in
    prefix_split by at is c.requires.point c.to_opaque-old.ensures (c.set_header.ensures.leaves ∙ c.reserve.ensures.leaves)
    (c.set_header.ensures.inners ∙ ap (λ m. change m c.args.inner_node_ptr (with_header c.trimmed_header-header.result)) c.reserve.ensures.inners)
    (c.trimmed_header-header.ensures.header (g.K.AsBytes.bytes c.args.key) pairs layout by at)
    c.branch_at_prefix-branch.ensures.len c.place_branch.ensures.placed)

pub returns-clause-memory : goal.returns-clause-memory
returns-clause-memory g c =
    granted
    (c.place_branch.ensures.promise
    ∙ ap (λ promise. take_inner Node4 (take_leaf promise)) c.set_header.ensures.promise
    ∙ after_reserve c.args.store.now c.reserve.new.self (Some Node4) c.reserve.result
    (sym c.is_err.ensures.value ∙ c.if-is_err.false) c.reserve.ensures.covered c.reserve.ensures.granted
    (ap (placed_for c.args.store.now) (sym c.requires.point)))
