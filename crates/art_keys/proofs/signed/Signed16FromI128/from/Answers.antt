use Rattle.std.proofs.Common.{ap, sym, ◌∙◌, subst}
use Rattle.std.proofs.lemmas.Int.{to_z-of_z}
use Rattle.std.specs.Int.{bytes_high_first}
use Rattle.art_keys.specs.Numbers.{HasSignedBytes, IsSignedNumber, lifted, lowered, number_of}
use Rattle.art_keys.specs.NumberLaws.{signed_back, signed_is}
use Rattle.art_keys.proofs.signed.Signed16FromI128.from.Goals as goal
use mir.Syntax.{w128}

pub invariant_of-result : goal.invariant_of-result
invariant_of-result c =
    let same = to_z-of_z w128 c.args.n c.ranges.n in
    subst (IsSignedNumber 16) (sym (c.to_be_bytes.ensures ∙ ap (bytes_high_first 16) (c.lift-lifted.ensures.lifted ∙ ap (lifted 16) same)))
    (signed_is 16 c.args.n (subst (HasSignedBytes 16) same c.lift-lifted.ensures.fits))

pub returns : goal.returns
returns c =
    let same = to_z-of_z w128 c.args.n c.ranges.n in
    ap (λ bytes. lowered 16 (number_of bytes))
    (c.to_be_bytes.ensures ∙ ap (bytes_high_first 16) (c.lift-lifted.ensures.lifted ∙ ap (lifted 16) same))
    ∙ signed_back 16 c.args.n (subst (HasSignedBytes 16) same c.lift-lifted.ensures.fits)
