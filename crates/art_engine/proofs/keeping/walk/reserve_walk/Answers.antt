use Rattle.std.proofs.Common.{◌≡◌, ◌+◌, ◌++◌, suc, length, length-append, ap, sym, ◌∙◌, arith, subst}
use Rattle.std.specs.Vec.{vec_capacity}
use Rattle.art_engine.specs.NodeWalks.{HasRoom, below, left_after, after_turn}
use Rattle.art_engine.proofs.Walks.{none_left, room_next, room_whole, after_turn-last}
use Rattle.art_engine.proofs.keeping.walk.reserve_walk.Goals as goal

pub returns-in_default-clause-room : goal.returns-in_default-clause-room
returns-in_default-clause-room g c =
    let (turns, left, room) = c.loop.invariant in
    let none = none_left c.loop.pending.items (omega (arith, c.in_default.ensures.cases.0, c.loop.pending.ok.0)) in
    subst (HasRoom c.args.store.now c.args.root) (sym c.pop.ensures.capacity)
    (room_whole c.args.store.now c.args.root turns (vec_capacity c.loop.pending) room (sym left ∙ none))

pub push_below-requires : goal.push_below-requires
push_below-requires g c =
    let under = below c.args.store.now c.in-Some.next in
    let rest = c.reserve.new.self in
    omega (arith, length-append rest.items under, c.in_ok-reserve.ensures.ok, rest.ok.0, c.count_children.ensures)

pub loop-preserved : goal.loop-preserved
loop-preserved g c =
    let s = c.args.store.now in
    let (turns, left, room) = c.loop.invariant in
    let under = below s c.in-Some.next in
    let is = after_turn-last s c.loop.pending.items c.pop.new.self.items c.in-Some.next c.in-Some.ensures.items in
    let now : c.push_below.new.pending.items ≡ left_after s c.args.root (suc turns) =
    c.push_below.ensures.items ∙ ap (λ l. l ++ under) c.reserve.ensures.items ∙ sym is ∙ ap (after_turn s) left in
    let long : length c.push_below.new.pending.items ≡ length c.reserve.new.self.items + length under =
    omega (arith, ap length c.push_below.ensures.items, length-append c.reserve.new.self.items under) in (
      suc turns,
      now,
      room_next s c.args.root turns (vec_capacity c.loop.pending) (vec_capacity c.push_below.new.pending)
          (omega (arith, c.pop.ensures.capacity, c.reserve.ensures.capacity, c.push_below.ensures.capacity)) room
          (omega (arith, ap length now, long, c.in_ok-reserve.ensures.ok, c.reserve.new.self.ok.0, c.count_children.ensures, c.push_below.ensures.capacity)),
    )
