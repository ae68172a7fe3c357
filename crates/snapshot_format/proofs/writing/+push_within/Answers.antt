use Rattle.std.proofs.Common.{◌+◌, ◌-◌, ◌/◌, ◌%◌, ◌++◌, ◌∷◌, [], ap, sym, ◌∙◌, append_assoc, arith}
use Rattle.std.proofs.lemmas.Result.{on_ok_weaker}
use Rattle.snapshot_format.specs.Numbers.{number_within}
use Rattle.snapshot_format.proofs.Numbers.{within_small}
use Rattle.snapshot_format.proofs.WrittenNumbers.{fits_large, fits_high, large_is}
use Rattle.snapshot_format.proofs.writing.+push_within.Goals as goal

pub returns-then-number-lt128 : goal.returns-then-number-lt128
returns-then-number-lt128 t c = rw (within_small c.args.more c.args.number c.if-number-lt128.true) c.push_byte.ensures

pub overflow_sub-more : goal.overflow_sub-more
overflow_sub-more t c = fits_large c.args.more c.args.number c.requires c.if-number-lt128.false

pub push_within-requires : goal.push_within-requires
push_within-requires t c = (let h = fits_large c.args.more c.args.number c.requires c.if-number-lt128.false in let d = c.decreases in omega arith, fits_high c.args.more c.args.number c.requires c.if-number-lt128.false)

pub returns : goal.returns
returns t c =
    on_ok_weaker c.push_within.result (λ is.
    is ∙ ap (λ bs. bs ++ number_within (c.args.more - 1) (c.args.number / 128)) c.in_ok-push_byte.ensures
    ∙ append_assoc c.args.out.now.items ((128 + c.args.number % 128) ∷ []) (number_within (c.args.more - 1) (c.args.number / 128))
    ∙ ap (λ bs. c.args.out.now.items ++ bs) (sym (large_is c.args.more c.args.number c.requires c.if-number-lt128.false))) c.push_within.ensures
