use Rattle.std.proofs.Common.{◌≡◌, ap, ◌∙◌, length, arith, take}
use Rattle.std.proofs.Math.Seq.{take-length}
use Rattle.prefix_table.specs.Sorting.{numbered}
use Rattle.prefix_table.proofs.SortingLemmas.{length-numbered}
use Rattle.prefix_table.proofs.sorting.numbered_rows.Goals as goal

pub returns : goal.returns
returns c =
    let many = length-numbered 0 c.args.networks.now in
    let all : c.loop-place.place ≡ length (numbered 0 c.args.networks.now) = omega (arith, c.loop-place.auto.place-end) in
    c.loop-place.invariant ∙ ap (λ n. take n (numbered 0 c.args.networks.now)) all ∙ take-length (numbered 0 c.args.networks.now)
