use Rattle.std.proofs.Common.{ap, sym, subst, ◌∙◌}
use Rattle.std.proofs.iter.Next as it
use Rattle.art_model.specs.Prelude.{of_key, put}
use Rattle.art_changing.specs.MapAnswers.{IsRefusalOf}
use Rattle.art_map.proofs.Extended.{put_last}
use Rattle.art_map.proofs.map.ByteMap.extend.Goals as goal

pub loop-key-preserved : goal.loop-key-preserved
loop-key-preserved g c =
    let B = g.K.AsBytes.bytes in
    let inv = c.loop-key.invariant in
    let x : g.row.K.Denot × g.row.V.Denot = (c.in-Some.key, c.in-Some.value) in
    it.again inv x c.in-Some.is (c.next.ensures.steps, c.next.ensures.goes)
    (c.in-Ok.ensures.pairs ∙ ap (put (of_key B) x) inv.holds ∙ sym (put_last B x inv.seen c.args.self.now))

pub returns-in-Err : goal.returns-in-Err
returns-in-Err g c =
    let inv = c.loop-key.invariant in
    let x : g.row.K.Denot × g.row.V.Denot = (c.in-Some.key, c.in-Some.value) in
    let refused =
    subst (λ pairs. IsRefusalOf g.K.AsBytes.bytes c.in-Some.key c.in-Some.value pairs c.in-Err.error)
    (sym c.in-Err.ensures.kept) c.in-Err.ensures.refused in
    record { all = tt; refused = (inv.seen, x, it.Gave-then inv c.in-Some.is c.next.ensures.steps, c.in-Err.ensures.kept ∙ inv.holds, refused) }
