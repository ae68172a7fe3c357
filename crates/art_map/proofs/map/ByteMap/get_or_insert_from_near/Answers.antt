use Rattle.std.proofs.Common.{Some, ap, subst, sym, ◌∙◌, is_some, inr, unwrap_or}
use Rattle.art_model.specs.Prelude.{of_key, put}
use Rattle.art_map.specs.MadeKeys.{IsSourceRefusal}
use Rattle.art_changing.specs.MapAnswers.{value_at, with_value_at}
use Rattle.art_map.proofs.EnteredLeaves.{entered_from_holds}
use Rattle.art_changing.proofs.MapPuts.{is_some-map}
use Rattle.art_map.proofs.ValueLaws.{new_value, new_written}
use Rattle.art_changing.proofs.ViewsOfPairs.{holds, map_held, view_of}
use Rattle.art_map.proofs.WrittenValues.{is_there, lends_same, one_value, value_read, value_written}
use Rattle.art_map.proofs.map.ByteMap.get_or_insert_from_near.Goals as goal

pub invariant_of-self : goal.invariant_of-self
invariant_of-self g c =
    entered_from_holds g.K.AsBytes.bytes g.row.P _ c.leaf_from.new.store c.leaf_from.new.root c.leaf_from.new.len _ _ _ _ c.leaf_from.result
    c.leaf_from.ensures

pub unwrap-requires : goal.unwrap-requires
unwrap-requires g c =
    let key = g.S.ToKey.made c.args.source.now in
    let there = is_there g.K.AsBytes.bytes g.row.P (g.K.AsBytes.bytes key) c.in-Ok.ensures.0.1 in
    sym (is_some-map (λ lent. lent.now) c.value_mut.result) ∙ ap is_some c.value_mut.ensures.value
    ∙ is_some-map (λ node. node.value) _ ∙ there

pub returns-in-Err : goal.returns-in-Err
returns-in-Err g c =
    let bytes = g.K.AsBytes.bytes in
    let seen = view_of (of_key bytes) g.row.P c.leaf_from.new.store c.in-Err.ensures.0 ∙ c.self.view_is in (
      ap (λ s. inr s) seen,
      record {
        writes_back = tt;
        value = tt;
        accepted = tt;
        is_key = tt;
        refused = subst (λ pairs. IsSourceRefusal bytes (g.S.ToKey.made c.args.source.now) (g.S.ToKey.is_key c.args.source.now)
            (g.S.ToKey.allocates_nothing c.args.source.now) c.args.value pairs c.in-Err.error) c.self.view_is c.in-Err.ensures.1;
      },
    )

pub invariant_of-self-lent : goal.invariant_of-self-lent
invariant_of-self-lent g c w =
    let bytes = g.K.AsBytes.bytes in
    let (held, named, free) = c.in-Ok.ensures.0 in
    holds (of_key bytes) g.row.P _ (value_written bytes g.row.P (bytes (g.S.ToKey.made c.args.source.now)) named
    (holds (of_key bytes) g.row.P c.leaf_from.new.store held) w)

pub returns : goal.returns
returns g c =
    let bytes = g.K.AsBytes.bytes in
    let made = g.S.ToKey.made c.args.source.now in
    let key = bytes made in
    let (held, named, free) = c.in-Ok.ensures.0 in
    let seen = view_of (of_key bytes) g.row.P c.leaf_from.new.store held in
    let rising = map_held (of_key bytes) g.row.P c.self.inside.store c.self.invariant in
    let left = λ (w : g.row.V.Denot).
    view_of (of_key bytes) g.row.P _ (value_written bytes g.row.P key named (holds (of_key bytes) g.row.P c.leaf_from.new.store held) w)
    ∙ ap (with_value_at bytes key w) seen ∙ new_written bytes made _ rising c.args.value w
    ∙ ap (put (of_key bytes) (made, w)) c.self.view_is in (
      lends_same left,
      record {
        writes_back = tt;
        value = one_value ((rw c.unwrap.ensures at c.value_mut.ensures.value) ∙ value_read bytes g.row.P key named seen
            ∙ new_value bytes made _ rising c.args.value
            ∙ ap (λ pairs. Some (unwrap_or (value_at bytes key pairs) c.args.value)) c.self.view_is);
        accepted = rw c.self.view_is at free;
        is_key = rw c.self.view_is at c.in-Ok.ensures.1;
        refused = tt;
      },
    )
