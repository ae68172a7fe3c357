use Rattle.std.proofs.Common.{rules, refl, ◌≡◌, IsSome, IfSome, ap, ap₂, sym, ◌∙◌, subst}
use Rattle.std.specs.FinMap as map
use Rattle.art_model.specs.Prelude.{with_header, header_of, ref_view, change, as_inner}
use Rattle.art_writing.proofs.Compressions.{leaf_there, node_there}
use Rattle.art_writing.proofs.delete.compress.lengthen_prefix.Goals as goal

pub inner_at-node-requires : goal.inner_at-node-requires
inner_at-node-requires g c =
    let inners = c.args.store.now.inners in
    let there =
    node_there g.K.AsBytes.bytes (map.get c.args.store.now.leaves c.args.below) (map.get inners (as_inner c.args.name)) c.args.front.len
    (c.requires (c.in-Some.ensures.inner.0 refl)) in (
      search rules,
      (
        search rules,
        subst (λ name. IsSome (map.get inners name)) (ap as_inner (sym c.in-Some.ensures.name)) there,
      ),
    )

pub leaf_at-leaf-requires : goal.leaf_at-leaf-requires
leaf_at-leaf-requires g c = (
  search rules,
  leaf_there g.K.AsBytes.bytes (map.get c.args.store.now.leaves c.args.below) (map.get c.args.store.now.inners (as_inner c.args.name)) c.args.front.len
      (c.requires (c.in-Some.ensures.inner.0 refl)),
)

pub returns-clause-leaf : goal.returns-clause-leaf
returns-clause-leaf g c leaf = absurd (c.in-Some.ensures.inner.0 refl leaf)

pub returns-clause-inner : goal.returns-clause-inner
returns-clause-inner g c proper first rest front own =
    let inners = c.args.store.now.inners in
    let is : as_inner c.args.name ≡ c.in-Some.inner = ap as_inner (sym c.in-Some.ensures.name) in
    let own_is : (ref_view c.inner_at-node.result).prefix ≡ header_of g.row.P rest =
    subst (λ o. IfSome o (λ node. node.prefix ≡ header_of g.row.P rest)) (ap (map.get inners) is ∙ c.inner_at-node.ensures.view) own in
    c.set_header.ensures.inners ∙ ap₂ (λ k p. change inners k (with_header p)) (sym is) (c.header_below-header.ensures first rest front own_is)
