use Rattle.std.proofs.Common.{ap, sym, subst, ◌∙◌}
use Rattle.std.proofs.iter.Next as it
use Rattle.art_sets.specs.SetKeys.{IsKeyRefusal, add_key}
use Rattle.art_sets.proofs.AddedKeys.{add_last}
use Rattle.art_sets.proofs.set.ByteSet.extend.Goals as goal

pub loop-key-preserved : goal.loop-key-preserved
loop-key-preserved g c =
    let B = g.K.AsBytes.bytes in
    let inv = c.loop-key.invariant in
    it.again inv c.in-Some.key c.in-Some.is (c.next.ensures.steps, c.next.ensures.goes)
    (c.in-Ok.ensures.keys ∙ ap (add_key B c.in-Some.key) inv.holds ∙ sym (add_last B c.in-Some.key inv.seen c.args.self.now))

pub returns-in-Err : goal.returns-in-Err
returns-in-Err g c =
    let inv = c.loop-key.invariant in
    let refused = subst (λ keys. IsKeyRefusal g.K.AsBytes.bytes c.in-Some.key keys c.in-Err.error) (sym c.in-Err.ensures.kept) c.in-Err.ensures.refused in
    record { all = tt; refused = (inv.seen, c.in-Some.key, it.Gave-then inv c.in-Some.is c.next.ensures.steps, c.in-Err.ensures.kept ∙ inv.holds, refused) }
