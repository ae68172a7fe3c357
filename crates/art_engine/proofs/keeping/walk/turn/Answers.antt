use Rattle.std.proofs.Common.{rules, length, ap, sym, ◌∙◌, arith}
use Rattle.art_engine.proofs.Walks.{last-pushed, after_turn-last}
use Rattle.art_engine.proofs.keeping.walk.turn.Goals as goal

pub push_below-requires : goal.push_below-requires
push_below-requires g c =
    let left = after_turn-last c.args.store.now c.args.pending.now.items c.pop.new.self.items c.in_ok-next.next c.in_ok-next.ensures.items in
    (search rules, omega (arith, ap length left, c.requires, c.pop.ensures.capacity))

pub returns-clause-left : goal.returns-clause-left
returns-clause-left g c = c.push_below.ensures.items
    ∙ sym (after_turn-last c.args.store.now c.args.pending.now.items c.pop.new.self.items c.in_ok-next.next c.in_ok-next.ensures.items)

pub returns-clause-next : goal.returns-clause-next
returns-clause-next g c = sym (last-pushed c.args.pending.now.items c.pop.new.self.items c.in_ok-next.next c.in_ok-next.ensures.items)
