use Rattle.std.proofs.Common.{ℕ, ◌≡◌, ◌<◌, rules, sym, ◌∙◌, arith, subst}
use Rattle.art_model.specs.Prelude.{ref_kind, ref_view}
use Rattle.art_checking.proofs.Folded.{HasJoined, folds_leaf, full_inner, full_leaf, full_shown, full_some, full_held, first_child, started, more_child, stepped, ended}
use Rattle.art_checking.proofs.visitor.+visit.Goals as goal

falls : {t m n : ℕ} → m ≡ t → n < m → n < t
falls e l = omega arith

pub leaf_at-node-requires : goal.leaf_at-node-requires
leaf_at-node-requires g t c =
    let (layout, full) = c.requires in
    (search rules, full_leaf c.args.store.now full c.in-Leaf.leaf c.in-Leaf.ensures.name)

pub inner_at-node-requires : goal.inner_at-node-requires
inner_at-node-requires g t c =
    let (layout, full) = c.requires in (
      search rules,
      (
        search rules,
        full_inner c.args.store.now full c.in-Inner.inner c.in-Inner.ensures.proper c.in-Inner.ensures.name,
      ),
    )

pub returns-in-Leaf : goal.returns-in-Leaf
returns-in-Leaf g t c layout full =
    folds_leaf g.T.Visitor.of_leaf g.T.Visitor.of_inner g.T.Visitor.combines c.args.store.now layout c.in-Leaf.leaf c.leaf_at-node.result.now
    c.args.visitor.now c.visit_leaf.new.self c.visit_leaf.result full c.in-Leaf.ensures.name (sym c.leaf_at-node.ensures) c.visit_leaf.ensures

pub unreachable-requires : goal.unreachable-requires
unreachable-requires g t c =
    let (layout, full) = c.requires in
    full_some c.args.store.now full c.in-Inner.inner c.in-Inner.ensures.proper c.in-Inner.ensures.name (ref_kind c.inner_at-node.result)
    (ref_view c.inner_at-node.result) (sym c.inner_at-node.ensures.view) c.inner_at-node.ensures.kind
    (sym c.iter-children.ensures.children ∙ c.in_default.ensures.steps.0)

pub visit-joined-requires : goal.visit-joined-requires
visit-joined-requires g t c κs within =
    let (layout, full) = c.requires in
    let (cs, is, slots) =
    full_shown c.args.store.now full c.in-Inner.inner c.in-Inner.ensures.proper c.in-Inner.ensures.name (ref_kind c.inner_at-node.result)
    (ref_view c.inner_at-node.result) (sym c.inner_at-node.ensures.view) c.inner_at-node.ensures.kind in
    let (below, lower) =
    first_child g.T.Visitor.of_leaf g.T.Visitor.of_inner g.T.Visitor.combines c.args.store.now full (ref_kind c.inner_at-node.result)
    (ref_view c.inner_at-node.result) cs (c.in-Some.field-0-0, c.in-Some.first) c.next.new.self is
    (sym slots ∙ sym c.iter-children.ensures.children ∙ c.in-Some.ensures.steps) in
    (falls c.decreases lower, (within.0, (within.1.0, (within.1.1.0, (search rules, (within.1.1.1, (search rules, below)))))))

pub visit-output-requires : goal.visit-output-requires
visit-output-requires g t c κs within =
    let (layout, full) = c.requires in
    let has =
    subst (λ left. HasJoined g.T.Visitor.of_leaf g.T.Visitor.of_inner g.T.Visitor.combines c.args.store.now layout c.args.name
    (ref_kind c.inner_at-node.result) (ref_view c.inner_at-node.result) left c.args.visitor.now c.loop-child.joined c.loop-child.visitor)
    c.in-Some-2.ensures.steps (c.loop-child.invariant.2 layout full) in
    let (below, lower) = more_child g.T.Visitor.of_leaf g.T.Visitor.of_inner g.T.Visitor.combines c.args.store.now full
    (ref_kind c.inner_at-node.result) (ref_view c.inner_at-node.result) has in
    (falls c.decreases lower, (within.0, (within.1.0, (within.1.1.0, (search rules, (within.1.1.1, (search rules, below)))))))

pub returns : goal.returns
returns g t c layout full =
    let has =
    subst (λ left. HasJoined g.T.Visitor.of_leaf g.T.Visitor.of_inner g.T.Visitor.combines c.args.store.now layout c.args.name
    (ref_kind c.inner_at-node.result) (ref_view c.inner_at-node.result) left c.args.visitor.now c.loop-child.joined c.loop-child.visitor)
    c.in-None.ensures.steps.0 (c.loop-child.invariant.2 layout full) in
    ended g.T.Visitor.of_leaf g.T.Visitor.of_inner g.T.Visitor.combines c.args.store.now c.args.visitor.now c.loop-child.visitor
    c.visit_inner_node.new.self c.loop-child.joined c.visit_inner_node.result has
    (full_held c.args.store.now full c.in-Inner.inner c.in-Inner.ensures.proper c.in-Inner.ensures.name (ref_kind c.inner_at-node.result)
    (ref_view c.inner_at-node.result) (sym c.inner_at-node.ensures.view) c.inner_at-node.ensures.kind) c.visit_inner_node.ensures

pub loop-child-init : goal.loop-child-init
loop-child-init g t c = (
  tt,
  tt,
  λ layout full.
      let (cs, is, slots) =
      full_shown c.args.store.now full c.in-Inner.inner c.in-Inner.ensures.proper c.in-Inner.ensures.name (ref_kind c.inner_at-node.result)
      (ref_view c.inner_at-node.result) (sym c.inner_at-node.ensures.view) c.inner_at-node.ensures.kind in
      subst (λ left. HasJoined g.T.Visitor.of_leaf g.T.Visitor.of_inner g.T.Visitor.combines c.args.store.now layout c.args.name
      (ref_kind c.inner_at-node.result) (ref_view c.inner_at-node.result) left c.args.visitor.now c.visit-joined.result c.visit-joined.new.visitor)
      (sym c.into_iter-child-iterator.ensures.into_iter_gives)
      (started g.T.Visitor.of_leaf g.T.Visitor.of_inner g.T.Visitor.combines c.args.store.now full (ref_kind c.inner_at-node.result)
      (ref_view c.inner_at-node.result) cs (c.in-Some.field-0-0, c.in-Some.first) c.next.new.self is
      (sym slots ∙ sym c.iter-children.ensures.children ∙ c.in-Some.ensures.steps)
      c.args.visitor.now c.visit-joined.new.visitor c.visit-joined.result c.visit-joined.ensures),
)

pub loop-child-preserved : goal.loop-child-preserved
loop-child-preserved g t c = (
  tt,
  tt,
  λ layout full.
      let has =
      subst (λ left. HasJoined g.T.Visitor.of_leaf g.T.Visitor.of_inner g.T.Visitor.combines c.args.store.now layout c.args.name
      (ref_kind c.inner_at-node.result) (ref_view c.inner_at-node.result) left c.args.visitor.now c.loop-child.joined c.loop-child.visitor)
      c.in-Some-2.ensures.steps (c.loop-child.invariant.2 layout full) in
      stepped g.T.Visitor.of_leaf g.T.Visitor.of_inner g.T.Visitor.combines c.args.store.now full (ref_kind c.inner_at-node.result)
      (ref_view c.inner_at-node.result) has c.visit-output.new.visitor c.visit-output.result c.combine_output-joined.result
      c.visit-output.ensures c.combine_output-joined.ensures,
)
