use Rattle.std.proofs.Common.{◌<◌, length, arith}
use Rattle.art_inner.proofs.RemovalLemmas.{moved_front, all_moved}
use Rattle.art_inner.proofs.table.remove_from.Goals as goal

pub loop-place-preserved : goal.loop-place-preserved
loop-place-preserved g c =
    let (after, within, is) = c.loop-place.invariant in
    let more : c.loop-place.place < length c.args.part.now = omega (arith, c.loop-place-test.true, c.loop-place.auto.part) in
    let read = c.index-part-place in (
      omega (arith, after),
      omega (arith, more),
      moved_front c.args.part.now c.loop-place.part c.args.at c.loop-place.place read.result read.result after more is read.is,
    )

pub returns : goal.returns
returns g c =
    let (after, within, is) = c.loop-place.invariant in
    all_moved c.args.part.now c.loop-place.part c.args.at c.loop-place.place c.requires
    (omega (arith, within, c.loop-place-test.false, c.loop-place.auto.part)) is
