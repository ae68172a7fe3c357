use Rattle.std.proofs.Common.{◌≡◌, ◌+◌, ◌≤◌, [], ◌∷◌, ◌++◌, IsSome, ap, arith, length, length-append, refl, rules, subst, sym, ◌∙◌}
use Rattle.art_model.specs.Prelude.{Inner}
use Rattle.std.specs.List.{cons_option}
use Rattle.std.proofs.lemmas.Bool.{false≢true}
use Rattle.art_model.proofs.stores.Shown.{leaf_met, inner_met}
use Rattle.art_reading.proofs.Endings.{front_byte, front_near, front_within, parts_rest}
use Rattle.art_reading.proofs.DescentSteps.{begins, node_there, ref_proper, same_there, shown_here, last_leaf, steps, steps_last, stops, stops_after, stops_last, stops_whole}
use Rattle.art_reading.proofs.LookupWays.{stored_short}
use Rattle.art_reading.proofs.PartNodes.{some_there}
use Rattle.art_reading.proofs.lookup.descent.walk.Goals as goal

pub down-init : goal.down-init
down-init g c = record { short = omega arith; few = omega arith; on_way = λ pairs layout by. rw c.new-steps.ensures (begins by _ _ _) }

pub unreachable-requires : goal.unreachable-requires
unreachable-requires g c =
    let (pairs, layout, by) = c.requires.root in
    let d = c.down.invariant.on_way pairs layout by in
    inner_met (node_there by d) (λ leaf. false≢true (c.in_default-as_leaf.ensures.leaf.1 leaf)) refl c.in_default.ensures.view

pub leaf_at-node-requires : goal.leaf_at-node-requires
leaf_at-node-requires g c =
    let (pairs, layout, by) = c.requires.root in
    let there = node_there by (c.down.invariant.on_way pairs layout by) in
    (search rules, some_there _ (leaf_met there c.in-Some-as_leaf.ensures.name))

pub returns-in_default-clause-ends : goal.returns-in_default-clause-ends
returns-in_default-clause-ends g c pairs layout by =
    let within = front_within (parts_rest _ c.parts-last.ensures) 0 in
    rw c.path-path.ensures (last_leaf by _ (c.down.invariant.on_way pairs layout by) c.in-Some-as_leaf.ensures.name (sym c.leaf_at-node.ensures)
    (omega arith) c.add_one.ensures)

pub step-requires : goal.step-requires
step-requires g c =
    let (pairs, layout, by) = c.requires.root in
    let d = c.down.invariant.on_way pairs layout by in
    (search rules, (c.down.invariant.short, stored_short d (shown_here by d c.in-Some.node c.in-Some.ensures.kind c.in-Some.ensures.view)))

pub step_down-requires : goal.step_down-requires
step_down-requires g c = ref_proper _ c.in-Some.ensures.kind

pub down-preserved : goal.down-preserved
down-preserved g c =
    let has = parts_rest _ c.parts-last.ensures in
    let (below, above, within, after) = c.in-Down.ensures (g.Q.KeyBytes.key c.args.query) has in
    record {
      short = omega arith;
      few = omega arith;
      on_way = λ pairs layout by.
          let d = c.down.invariant.on_way pairs layout by in
          let at = shown_here by d c.in-Some.node c.in-Some.ensures.kind c.in-Some.ensures.view in
          rw (c.step_down.ensures, front_byte has c.in-Down.place within) (steps by d at c.add_one.ensures below after);
    }

pub last_child-requires : goal.last_child-requires
last_child-requires g c =
    let (pairs, layout, by) = c.requires.root in
    let d = c.down.invariant.on_way pairs layout by in
    let (ended, same) = c.in-AtEnd.ensures (g.Q.KeyBytes.key c.args.query) (parts_rest _ c.parts-last.ensures) in
    let stored = stored_short d (shown_here by d c.in-Some.node c.in-Some.ensures.kind c.in-Some.ensures.view) in (
      search rules,
      (
        subst IsSome c.in-Some.ensures.view refl,
        λ node there.
            subst (λ (n : Inner). (c.down.depth + n.prefix.len ≡ length c.parts-last.result.0.now) × (length n.prefix.stored ≤ n.prefix.len))
            (same_there c.in-Some.ensures.view there) (ended, stored),
      ),
    )

pub returns-in_err-last-in-AtEnd-clause-ends : goal.returns-in_err-last-in-AtEnd-clause-ends
returns-in_err-last-in-AtEnd-clause-ends g c pairs layout by =
    let has = parts_rest _ c.parts-last.ensures in
    let d = c.down.invariant.on_way pairs layout by in
    let at = shown_here by d c.in-Some.node c.in-Some.ensures.kind c.in-Some.ensures.view in
    let (ended, same) = c.in-AtEnd.ensures (g.Q.KeyBytes.key c.args.query) has in
    rw c.from_residual.ensures
    (stops_whole by d at _ ended c.add_one.ensures (c.parts-last.ensures ∙ ap (λ o. c.parts-last.result.0.now ++ cons_option o []) c.in_err-last-in-AtEnd.was))

pub returns-in_err-child-in-AtEnd-clause-ends : goal.returns-in_err-child-in-AtEnd-clause-ends
returns-in_err-child-in-AtEnd-clause-ends g c pairs layout by =
    let has = parts_rest _ c.parts-last.ensures in
    let d = c.down.invariant.on_way pairs layout by in
    let at = shown_here by d c.in-Some.node c.in-Some.ensures.kind c.in-Some.ensures.view in
    let (ended, same) = c.in-AtEnd.ensures (g.Q.KeyBytes.key c.args.query) has in
    let is = c.parts-last.ensures ∙ ap (λ o. c.parts-last.result.0.now ++ cons_option o []) c.in_ok-last-in-AtEnd.was in
    rw c.from_residual-in_err-child-in-AtEnd.ensures
    (stops_last by d at _ ended _ is same c.add_one.ensures (c.in_err-child-in-AtEnd.ensures.child _ c.in-Some.ensures.view))

pub returns-in_err-name-in-AtEnd-clause-ends : goal.returns-in_err-name-in-AtEnd-clause-ends
returns-in_err-name-in-AtEnd-clause-ends g c pairs layout by =
    let has = parts_rest _ c.parts-last.ensures in
    let d = c.down.invariant.on_way pairs layout by in
    let at = shown_here by d c.in-Some.node c.in-Some.ensures.kind c.in-Some.ensures.view in
    let (ended, same) = c.in-AtEnd.ensures (g.Q.KeyBytes.key c.args.query) has in
    let is = c.parts-last.ensures ∙ ap (λ o. c.parts-last.result.0.now ++ cons_option o []) c.in_ok-last-in-AtEnd.was in
    let below = steps_last by d at _ ended _ is same c.add_one.ensures (c.in_ok-child-in-AtEnd.ensures.child _ c.in-Some.ensures.view)
    (c.in_ok-child-in-AtEnd.ensures.behavior _ c.in-Some.ensures.view refl) in
    rw c.from_residual-in_err-name-in-AtEnd.ensures
    (stops_after by below c.add_one-in-AtEnd.ensures (λ leaf. false≢true (c.in_err-name-in-AtEnd.ensures.leaf.1 leaf)) (front_near has 0))

pub leaf_at-node-requires-in-AtEnd : goal.leaf_at-node-requires-in-AtEnd
leaf_at-node-requires-in-AtEnd g c =
    let (pairs, layout, by) = c.requires.root in
    let has = parts_rest _ c.parts-last.ensures in
    let d = c.down.invariant.on_way pairs layout by in
    let at = shown_here by d c.in-Some.node c.in-Some.ensures.kind c.in-Some.ensures.view in
    let (ended, same) = c.in-AtEnd.ensures (g.Q.KeyBytes.key c.args.query) has in
    let is = c.parts-last.ensures ∙ ap (λ o. c.parts-last.result.0.now ++ cons_option o []) c.in_ok-last-in-AtEnd.was in
    let below = steps_last by d at _ ended _ is same c.add_one.ensures (c.in_ok-child-in-AtEnd.ensures.child _ c.in-Some.ensures.view)
    (c.in_ok-child-in-AtEnd.ensures.behavior _ c.in-Some.ensures.view refl) in
    (search rules, some_there _ (leaf_met (node_there by below) c.in_ok-name-in-AtEnd.ensures.name))

pub returns-in-AtEnd-clause-ends : goal.returns-in-AtEnd-clause-ends
returns-in-AtEnd-clause-ends g c pairs layout by =
    let has = parts_rest _ c.parts-last.ensures in
    let d = c.down.invariant.on_way pairs layout by in
    let at = shown_here by d c.in-Some.node c.in-Some.ensures.kind c.in-Some.ensures.view in
    let (ended, same) = c.in-AtEnd.ensures (g.Q.KeyBytes.key c.args.query) has in
    let is = c.parts-last.ensures ∙ ap (λ o. c.parts-last.result.0.now ++ cons_option o []) c.in_ok-last-in-AtEnd.was in
    let below = steps_last by d at _ ended _ is same c.add_one.ensures (c.in_ok-child-in-AtEnd.ensures.child _ c.in-Some.ensures.view)
    (c.in_ok-child-in-AtEnd.ensures.behavior _ c.in-Some.ensures.view refl) in
    rw (c.path.ensures, c.step_down-in-AtEnd.ensures)
    (last_leaf by _ below c.in_ok-name-in-AtEnd.ensures.name (sym c.leaf_at-node-in-AtEnd.ensures)
    (omega (arith, front_near has 0, ap length is, length-append c.parts-last.result.0.now (c.in_ok-last-in-AtEnd.last ∷ []))) c.add_one-in-AtEnd.ensures)

pub returns-in-Nowhere-clause-ends : goal.returns-in-Nowhere-clause-ends
returns-in-Nowhere-clause-ends g c pairs layout by =
    let d = c.down.invariant.on_way pairs layout by in
    let at = shown_here by d c.in-Some.node c.in-Some.ensures.kind c.in-Some.ensures.view in
    stops by d at c.add_one.ensures (c.in-Nowhere.ensures (g.Q.KeyBytes.key c.args.query) (parts_rest _ c.parts-last.ensures))
