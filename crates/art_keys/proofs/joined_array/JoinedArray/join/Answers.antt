use Rattle.std.proofs.Common.{ap₂, ◌+◌, ◌++◌, ◌∙◌, length-append}
use Rattle.art_keys.proofs.Backs.{own_bytes}
use Rattle.art_keys.specs.JoinLaws.{arrays_come_back}
use Rattle.art_keys.specs.Joins.{joined_length}
use Rattle.art_keys.proofs.joined_array.JoinedArray.join.Goals as goal

pub invariant_of-result : goal.invariant_of-result
invariant_of-result g c =
    own_bytes _ (joined_length g.A.DecodeBytes.length_of g.B.DecodeBytes.length_of)
    (arrays_come_back g.A.NoPrefixesBytes.is_key g.A.AsBytes.bytes g.B.NoPrefixesBytes.is_key g.B.AsBytes.bytes
    g.A.DecodeBytes.key_of g.A.DecodeBytes.length_of g.B.DecodeBytes.key_of g.B.DecodeBytes.length_of
    g.met.A.DecodeBytes.comes_back g.met.B.DecodeBytes.comes_back g.row.N) _ (record {
      key = (c.args.first.now, c.args.second.now);
      of_key = (
        (c.as_key.ensures, c.as_key-2.ensures),
        length-append _ _ ∙ ap₂ (λ m n. m + n) (g.met.A.FixedBytes.has_count _ c.as_key.ensures)
            (g.met.B.FixedBytes.has_count _ c.as_key-2.ensures) ∙ c.requires,
      );
      is = c.two_in_one.ensures ∙ ap₂ (λ s t. s ++ t) c.as_bytes.ensures c.as_bytes-2.ensures;
    })
