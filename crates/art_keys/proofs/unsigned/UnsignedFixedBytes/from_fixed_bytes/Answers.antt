use Rattle.std.proofs.Common.{ap, length, rules, subst, sym, ◌∙◌}
use Rattle.art_keys.specs.NumberLaws.{length-bytes, number_is}
use Rattle.art_keys.specs.Numbers.{IsNumber}
use Rattle.art_keys.proofs.unsigned.UnsignedFixedBytes.from_fixed_bytes.Goals as goal

pub all_of-requires : goal.all_of-requires
all_of-requires g c = (search rules, ap length c.requires.is ∙ length-bytes _ _)

pub invariant_of-result : goal.invariant_of-result
invariant_of-result g c = subst (IsNumber g.row.N) (sym (c.all_of.ensures ∙ c.requires.is)) (number_is g.row.N c.requires.key c.requires.of_key)
