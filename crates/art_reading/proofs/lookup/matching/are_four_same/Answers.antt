use Rattle.std.proofs.Common.{◌≡◌, ◌^◌, ◌%◌, IsTrue, ◌↔◌, eqb, not, ap, sym, subst, take, drop, arith, w8}
use Rattle.std.proofs.lemmas.List.{length-drop, length-take}
use Rattle.std.proofs.lemmas.Simd.{tops_compared}
use lib.Lanes.{mask_l}
use Rattle.art_reading.proofs.Blocks.{unset_same}
use Rattle.art_reading.proofs.lookup.matching.are_four_same.Goals as goal

pub returns : goal.returns
returns c =
    let xs = take 4 (drop c.args.at c.args.a.now) in
    let ys = take 4 (drop c.args.at c.args.b.now) in
    let l = length-take 4 (drop c.args.at c.args.a.now) in
    let m = length-take 4 (drop c.args.at c.args.b.now) in
    let p = length-drop c.args.at c.args.a.now in
    let q = length-drop c.args.at c.args.b.now in
    let e = ap (λ ms. mask_l ms % 2 ^ 64) (tops_compared w8 (λ x y. not (eqb x y)) xs ys) in
    subst (λ bits. IsTrue (eqb bits 0) ↔ (xs ≡ ys)) (sym e)
    (unset_same xs ys (omega (arith, l, m, p, q, c.requires.in_a, c.requires.in_b)) (omega (arith, l)))
