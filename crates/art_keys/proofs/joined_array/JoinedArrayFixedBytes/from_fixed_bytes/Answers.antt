use Rattle.std.proofs.Common.{ap, length, rules, ◌∙◌}
use Rattle.art_keys.proofs.Backs.{own_bytes}
use Rattle.art_keys.specs.JoinLaws.{arrays_come_back}
use Rattle.art_keys.specs.Joins.{joined_length}
use Rattle.art_keys.proofs.joined_array.JoinedArrayFixedBytes.from_fixed_bytes.Goals as goal

pub all_of-requires : goal.all_of-requires
all_of-requires g c = (search rules, ap length c.requires.is ∙ c.requires.of_key.1)

pub invariant_of-result : goal.invariant_of-result
invariant_of-result g c =
    own_bytes _ (joined_length g.A.DecodeBytes.length_of g.B.DecodeBytes.length_of)
    (arrays_come_back g.A.NoPrefixesBytes.is_key g.A.AsBytes.bytes g.B.NoPrefixesBytes.is_key g.B.AsBytes.bytes
    g.A.DecodeBytes.key_of g.A.DecodeBytes.length_of g.B.DecodeBytes.key_of g.B.DecodeBytes.length_of
    g.met.A.DecodeBytes.comes_back g.met.B.DecodeBytes.comes_back g.row.N) _ (record {
      key = c.requires.key;
      of_key = c.requires.of_key;
      is = c.all_of.ensures ∙ c.requires.is;
    })
