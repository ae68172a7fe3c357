use Rattle.std.proofs.Common.{◌≡◌, ◌+◌, ℕ, min, sym, ap, ◌∙◌, length, is_some, arith}
use Rattle.art_inner.specs.Inner.{part_of}
use Rattle.art_inner.proofs.Extent.{counted_some, counted_none, empty_part}
use Rattle.art_inner.proofs.places.count_in.Goals.{in-Some, in_default}
use Rattle.art_inner.proofs.places.count_in.Goals as goal

pub loop-byte-init : goal.loop-byte-init
loop-byte-init g c = (sym (ap length (empty_part _ c.requires.rising c.args.from (min c.args.from c.args.to) (omega arith))), omega arith)

pub loop-byte-preserved : goal.loop-byte-preserved
loop-byte-preserved g c =
    let cs = g.T.Places.children_of c.args.table.now in
    let here : min c.loop-byte.byte c.args.to ≡ c.loop-byte.byte = omega (arith, c.loop-byte-test.true) in
    let later : c.loop-byte.byte + 1 ≡ min (c.loop-byte.byte + 1) c.args.to = omega (arith, c.loop-byte-test.true) in
    let old = c.loop-byte.invariant.0 ∙ ap (λ (n : ℕ). length (part_of c.args.from n cs)) here in
    let new = ap (λ (n : ℕ). length (part_of c.args.from n cs)) later in
    elim c.match-get.branch [
      | in-Some w ↦ (
        w.count-is ∙ ap (λ n. n + 1) old
            ∙ sym (counted_some cs c.requires.rising c.args.from c.loop-byte.byte c.loop-byte.auto.byte (ap is_some (sym c.get.ensures ∙ w.in-Some.is)))
            ∙ new,
        omega (arith, w.count-is, c.loop-byte.invariant.1, c.loop-byte.auto.byte),
      )
      | in_default w ↦ (
        w.count-is ∙ old ∙ sym (counted_none cs c.requires.rising c.args.from c.loop-byte.byte (sym c.get.ensures ∙ w.in_default.is))
            ∙ new,
        omega (arith, w.count-is, c.loop-byte.invariant.1, c.loop-byte.auto.byte),
      )
    ]
