use Rattle.std.proofs.Common.{Some, refl, ap, sym, subst, ◌∙◌}
use Rattle.std.specs.Iterator.{YieldsThen}
use Rattle.std.proofs.iter.Next as it
use Rattle.art_sets.specs.SetKeys.{add_key}
use Rattle.art_sets.proofs.AddedKeys.{add_last}
use Rattle.art_keyed_sets.proofs.set.TreeSet.extend_by_ref.Goals as goal

pub loop-key-init : goal.loop-key-init
loop-key-init g c = it.begun c.requires.can c.requires.ends refl

pub next-requires : goal.next-requires
next-requires g c = c.loop-key.invariant.callable

pub loop-key-smaller : goal.loop-key-smaller
loop-key-smaller g c = it.less c.loop-key.invariant c.in-Some.key c.in-Some.is c.next.ensures.goes

pub loop-key-preserved : goal.loop-key-preserved
loop-key-preserved g c =
    let B = g.K.AsBytes.bytes in
    let inv = c.loop-key.invariant in
    it.again inv c.in-Some.key c.in-Some.is (c.next.ensures.steps, c.next.ensures.goes)
    (c.in-Ok.ensures.keys ∙ ap (add_key B c.in-Some.key) inv.holds ∙ sym (add_last B c.in-Some.key inv.seen c.args.self.now))

pub returns-in-Err : goal.returns-in-Err
returns-in-Err g c =
    let inv = c.loop-key.invariant in
    let back = c.in-Err.ensures.handed_back in
    let gave = it.Gave-then inv c.in-Some.is c.next.ensures.steps in
    let given = subst (λ k. YieldsThen g.I.Iterator.next_gives c.args.keys.now inv.seen (Some k) c.next.new.self) (sym back) gave in
    record { all = tt; refused = (inv.seen, given, c.in-Err.ensures.kept ∙ inv.holds, rw (back, c.in-Err.ensures.kept) c.in-Err.ensures.refused) }

pub returns : goal.returns
returns g c =
    let inv = c.loop-key.invariant in
    record { all = (inv.seen, it.Gave-then inv c.in_default.is c.next.ensures.steps, inv.holds); refused = tt }
