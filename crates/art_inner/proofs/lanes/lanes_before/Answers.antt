use Rattle.std.proofs.Common.{ap, sym, ◌∙◌, arith, w8}
use Rattle.std.proofs.lemmas.Simd.{bitmask_splat, leading_from_mask_l, trailing_mask_l}
use lib.Count.{count_trailing_zeros}
use lib.Dec.{eqb}
use Rattle.art_inner.proofs.lanes.lanes_before.Goals as goal

pub returns-then-found-eq0 : goal.returns-then-found-eq0
returns-then-found-eq0 c =
    let xs = c.args.bytes.now in
    let b = c.args.byte in
    let e = bitmask_splat w8 eqb xs 16 b c.told-bytes (omega arith) in
    sym (leading_from_mask_l (λ x. eqb x b) xs (sym e ∙ c.if-found-eq0.true) ∙ c.told-bytes)

pub returns : goal.returns
returns c =
    let xs = c.args.bytes.now in
    let b = c.args.byte in
    let e = bitmask_splat w8 eqb xs 16 b c.told-bytes (omega arith) in
    ap (λ n. count_trailing_zeros 64 n) e ∙ trailing_mask_l (λ x. eqb x b) 64 xs (omega (arith, c.told-bytes)) (omega (arith, e, c.if-found-eq0.false))
