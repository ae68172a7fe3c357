use Rattle.std.proofs.Common.{◌≡◌, IsSome, IsSomeAnd, ap, sym, ◌∙◌, subst, rules}
use Rattle.std.specs.FinMap.{get, remove}
use Rattle.art_model.specs.Prelude.{without_leaf}
use Rattle.art_writing.specs.Inserted.{unlinked_leaf}
use Rattle.art_writing.proofs.LeafWrites.{joined_there, joined_keeps}
use Rattle.art_writing.proofs.writes.take_from_between.Goals as goal

pub free_leaf-leaf-requires : goal.free_leaf-leaf-requires
free_leaf-leaf-requires g c =
    let m = c.args.store.now.leaves in
    let x = c.leaf_at-leaf.result.now in
    let all = c.link.ensures.leaves in (
      search rules,
      subst (λ z. IsSome (get z c.args.name)) (sym all) (joined_there m x.previous x.next x.next x.previous c.args.name x c.leaf_at-leaf.ensures),
    )

pub returns-clause-leaf : goal.returns-clause-leaf
returns-clause-leaf g c =
    let m = c.args.store.now.leaves in
    let x = c.leaf_at-leaf.result.now in
    let there = c.leaf_at-leaf.ensures in
    let all = c.link.ensures.leaves in
    let same = joined_keeps m x.previous x.next x.next x.previous c.args.name x there c.free_leaf-leaf.result
    (sym (ap (λ z. get z c.args.name) all) ∙ c.free_leaf-leaf.ensures.node) in
    subst (λ o. IsSomeAnd o (λ leaf. c.with_no_siblings.result ≡ unlinked_leaf (leaf.key, leaf.value))) (sym there)
    (c.with_no_siblings.ensures ∙ ap unlinked_leaf same)

pub returns-clause-leaves : goal.returns-clause-leaves
unfolding without_leaf
returns-clause-leaves g c =
    let m = c.args.store.now.leaves in
    let x = c.leaf_at-leaf.result.now in
    let there = c.leaf_at-leaf.ensures in
    let all = c.link.ensures.leaves in
    subst (λ o. IsSomeAnd o (λ leaf. c.free_leaf-leaf.new.self.leaves ≡ without_leaf m c.args.name leaf)) (sym there)
    (c.free_leaf-leaf.ensures.leaves ∙ ap (λ z. remove z c.args.name) all)
