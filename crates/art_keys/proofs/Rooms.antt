-- Bytes that are copied into an array, one slice behind another.
use Rattle.std.proofs.Common.{◌≡◌, ℕ, ◌+◌, List, ◌++◌, length, take, ap, ap₂, arith, sym, ◌∙◌}
use Rattle.std.proofs.Math.Seq.{take-append_seam}
use Rattle.std.proofs.lemmas.List.{length-append}
use Rattle.std.proofs.lemmas.Slice.{take-put_mid}
use borrow.Rule.Slice.PartMut.{put_mid}

-- both are at the front of what was written
pub copied_both : (first second xs ys rest : List ℕ) (count : ℕ) → xs ≡ first → ys ≡ second →
    take (length first + length second) (put_mid (length first) count (xs ++ rest) ys) ≡ first ++ second
copied_both first second xs ys rest count is also =
    take-put_mid (length first) count (xs ++ rest) ys (length first + length second) (ap (λ zs. length first + length zs) (sym also))
    (omega (arith, ap length is, length-append xs rest))
    ∙ ap₂ (λ s t. s ++ t) (ap (λ zs. take (length first) (zs ++ rest)) is ∙ take-append_seam first rest) also
