use Rattle.std.proofs.Common.{◌≡◌, ap, false, inr, subst}
use Rattle.art_model.specs.Pairs.{has_key, of_key}
use Rattle.art_keyed.proofs.Keyed.{put_keeps, refusal_told}
use Rattle.art_keyed.proofs.map.TreeMap.get_or_insert_near.Goals as goal

pub invariant_of-self-lent : goal.invariant_of-self-lent
invariant_of-self-lent g c w = put_keeps g.row.V.Denot _ g.K.AsBytes.bytes c.args.key w c.self.inside.map c.as_key.ensures c.self.invariant

pub returns-in-Err : goal.returns-in-Err
returns-in-Err g c =
    let bytes = g.K.AsBytes.bytes in
    let told = refusal_told g.row.V.Denot _ bytes g.met.K.NoPrefixesBytes.no_prefixes c.args.key c.args.value c.self.inside.map
    c.as_key.ensures c.self.invariant _ c.in-Err.ensures.refused c.into_pair.result c.into_pair.ensures in (
      ap (λ s. inr s) c.self.view_is,
      record {
        writes_back = tt;
        value = tt;
        handed_back = told.0;
        refused = subst (λ pairs. has_key (of_key bytes) (bytes c.args.key) pairs ≡ false) c.self.view_is told.1;
      },
    )
