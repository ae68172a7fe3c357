use Rattle.std.proofs.Common.{◌≡◌, ap, false, inr, subst, sym}
use Rattle.std.specs.Fn.{FnOnceReturnsAt}
use Rattle.std.specs.Option.{UnwrapsOrElse}
use Rattle.art_model.specs.Pairs.{has_key, of_key, put}
use Rattle.art_changing.specs.MapAnswers.{value_at}
use Rattle.art_map.proofs.WrittenValues.{lends_same}
use Rattle.art_keyed.proofs.Keyed.{put_keeps, refusal_told}
use Rattle.art_keyed.proofs.map.TreeMap.get_or_insert_with.Goals as goal

pub invariant_of-self-lent : goal.invariant_of-self-lent
invariant_of-self-lent g c w = put_keeps g.row.V.Denot _ g.K.AsBytes.bytes c.args.key w c.self.inside.map c.as_key.ensures c.self.invariant

pub returns-in-Err : goal.returns-in-Err
returns-in-Err g c =
    let bytes = g.K.AsBytes.bytes in
    let (value, made, refusal) = c.in-Err.ensures.refused in
    let told = refusal_told g.row.V.Denot _ bytes g.met.K.NoPrefixesBytes.no_prefixes c.args.key value c.self.inside.map c.as_key.ensures
    c.self.invariant _ refusal c.into_pair.result c.into_pair.ensures in (
      ap (λ s. inr s) c.self.view_is,
      record {
        writes_back = tt;
        value = tt;
        handed_back = (told.0.0, subst (FnOnceReturnsAt g.F.FnOnce c.args.make c.args.key) (sym told.0.1) made);
        refused = subst (λ pairs. has_key (of_key bytes) (bytes c.args.key) pairs ≡ false) c.self.view_is told.1;
      },
    )

pub returns-in-Ok : goal.returns-in-Ok
returns-in-Ok g c =
    let bytes = g.K.AsBytes.bytes in (
      lends_same (λ w. ap (put (of_key bytes) (c.args.key, w)) c.self.view_is),
      record {
        writes_back = tt;
        value = subst (λ pairs. UnwrapsOrElse (value_at bytes (bytes c.args.key) pairs)
            (FnOnceReturnsAt g.F.FnOnce c.args.make c.args.key) c.in-Ok.lent.now) c.self.view_is
            c.in-Ok.ensures.value;
        handed_back = tt;
        refused = tt;
      },
    )
