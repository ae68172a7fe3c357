use Rattle.std.proofs.Common.{◌≡◌, rules, suc, [], ◌∷◌, ◌++◌, length, ap, sym, ◌∙◌, arith, subst, inr}
use Rattle.std.specs.List.{AllByRecursion as Each}
use Rattle.art_engine.specs.NodeWalks.{HasRoom, pending_root, after_turn}
use Rattle.art_engine.proofs.NodesBelow.{IsPendingTree, tree_taken, trees_turned}
use Rattle.art_engine.specs.NodeLines.{nodes_text}
use Rattle.art_engine.proofs.NodeRows.{begins, ends, goes_on}
use Rattle.art_engine.proofs.nodes.write_nodes.Goals as goal

pub push_reserved-requires : goal.push_reserved-requires
push_reserved-requires g c = omega (arith, c.in-Ok.pending.ok.0, ap length c.in-Ok.ensures.empty, c.in-Ok.ensures.room 0)

pub loop-init : goal.loop-init
loop-init g c =
    let is : c.push_reserved.new.self.items ≡ pending_root c.in-Some.root ∷ [] =
    c.push_reserved.ensures.items ∙ ap (λ items. items ++ c.root.result ∷ []) c.in-Ok.ensures.empty ∙ ap (λ first. first ∷ []) c.root.ensures in (
      (
        c.in-Some.root,
        0,
        is,
        subst (HasRoom c.args.store.now c.in-Some.root) (sym c.push_reserved.ensures.capacity) c.in-Ok.ensures.room,
        subst (Each (IsPendingTree c.args.store.now)) (sym is) (rw c.in-Some.is at c.requires, tt),
      ),
      rw c.in-Some.is (begins g.row.P c.args.store.now c.in-Some.root c.push_reserved.new.self.items (g.W.Write.contents c.args.output.now) is),
    )

pub turn-requires : goal.turn-requires
turn-requires g c =
    let (root, turns, left, room, trees) = c.loop.invariant.0 in
    (search rules, omega (arith, ap (λ l. length (after_turn c.args.store.now l)) left, room (suc turns)))

pub returns-in_default-turn : goal.returns-in_default-turn
returns-in_default-turn g c = λ pairs by. inr (
    ends c.args.store.now c.loop.pending.items (nodes_text g.row.P pairs) (g.W.Write.contents c.args.output.now) (g.W.Write.contents c.loop.output)
    (rw c.in_default-turn.is at c.turn.ensures.next) (c.loop.invariant.1 pairs by)
    )

pub write_node-requires : goal.write_node-requires
write_node-requires g c =
    let (root, turns, left, room, trees) = c.loop.invariant.0 in
    (search rules, tree_taken c.args.store.now c.loop.pending.items c.in-Some-turn.next (rw c.in-Some-turn.is at c.turn.ensures.next) trees)

pub loop-preserved : goal.loop-preserved
loop-preserved g c =
    let (root, turns, left, room, trees) = c.loop.invariant.0 in (
      (
        root,
        suc turns,
        c.turn.ensures.left ∙ ap (after_turn c.args.store.now) left,
        subst (HasRoom c.args.store.now root) (sym c.turn.ensures.capacity) room,
        subst (Each (IsPendingTree c.args.store.now)) (sym c.turn.ensures.left) (trees_turned c.args.store.now c.loop.pending.items trees),
      ),
      λ pairs by. goes_on c.args.store.now (nodes_text g.row.P pairs) (g.W.Write.contents c.args.output.now)
          (g.W.Write.contents c.loop.output) (g.W.Write.contents c.write_node.new.output)
          c.loop.pending.items c.turn.new.pending.items c.in-Some-turn.next
          (rw c.in-Some-turn.is at c.turn.ensures.next) c.turn.ensures.left (c.loop.invariant.1 pairs by) c.in_ok-write_node.ensures,
    )
