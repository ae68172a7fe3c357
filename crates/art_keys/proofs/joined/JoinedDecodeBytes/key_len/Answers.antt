use Rattle.std.proofs.Common.{◌∙◌, ◌++◌, refl, arith}
use Rattle.art_keys.proofs.Beginnings.{both_counted, both_within, first_counted, first_is, lengths_joined, second_is}
use Rattle.art_keys.proofs.joined.JoinedDecodeBytes.key_len.Goals as goal

pub key_len-middle-requires : goal.key_len-middle-requires
key_len-middle-requires g c =
    let h = c.requires in record {
      key = h.key.0;
      rest = g.B.AsBytes.bytes h.key.1 ++ h.rest;
      of_key = h.of_key.0;
      is = first_is (g.A.AsBytes.bytes h.key.0) (g.B.AsBytes.bytes h.key.1) h.rest c.args.bytes.now h.is;
    }

pub slice_bounds-key_len-count : goal.slice_bounds-key_len-count
slice_bounds-key_len-count g c =
    let h = c.requires in
    let front = g.A.AsBytes.bytes h.key.0 in
    let back = g.B.AsBytes.bytes h.key.1 in
    let counted = first_counted front back h.rest c.args.bytes.now h.is g.A.DecodeBytes.length_of (g.met.A.DecodeBytes.comes_back h.key.0 h.of_key.0).1 in
    omega (arith, both_within front back h.rest c.args.bytes.now h.is _ _ (c.key_len-middle.ensures ∙ counted) refl)

pub key_len-requires : goal.key_len-requires
key_len-requires g c =
    let h = c.requires in
    let front = g.A.AsBytes.bytes h.key.0 in
    let back = g.B.AsBytes.bytes h.key.1 in
    let counted =
    first_counted front back h.rest c.args.bytes.now h.is g.A.DecodeBytes.length_of
    (g.met.A.DecodeBytes.comes_back h.key.0 h.of_key.0).1 in record {
      key = h.key.1;
      rest = h.rest;
      of_key = h.of_key.1;
      is = second_is front back h.rest c.args.bytes.now h.is c.key_len-middle.result (c.key_len-middle.ensures ∙ counted);
    }

pub overflow_add-result : goal.overflow_add-result
overflow_add-result g c =
    let h = c.requires in
    omega (
      arith,
      both_counted (g.A.AsBytes.bytes h.key.0) (g.B.AsBytes.bytes h.key.1) h.rest c.args.bytes.now h.is
          g.A.DecodeBytes.length_of g.B.DecodeBytes.length_of (g.met.A.DecodeBytes.comes_back h.key.0 h.of_key.0).1
          (g.met.B.DecodeBytes.comes_back h.key.1 h.of_key.1).1
          _ _ c.key_len-middle.ensures c.key_len.ensures,
    )

pub returns : goal.returns
returns g c =
    lengths_joined g.A.DecodeBytes.length_of g.B.DecodeBytes.length_of c.args.bytes.now c.key_len-middle.result c.key_len.result
    c.key_len-middle.ensures c.key_len.ensures
