use Rattle.std.proofs.Common.{Ok, Some, ap, subst, sym, ◌∙◌, is_some, inr, unwrap_or}
use Rattle.art_model.specs.Prelude.{of_key, put}
use Rattle.art_changing.specs.MapAnswers.{value_at, with_value_at}
use Rattle.art_map.specs.MapCalls.{IsMakeRefusal}
use Rattle.art_map.proofs.EnteredLeaves.{tried_holds, none_stored, unwraps}
use Rattle.art_changing.proofs.MapPuts.{is_some-map}
use Rattle.art_map.proofs.ValueLaws.{new_value, new_written}
use Rattle.art_changing.proofs.ViewsOfPairs.{holds, map_held, view_of}
use Rattle.art_map.proofs.WrittenValues.{is_there, lends_same, one_value, value_read, value_written}
use Rattle.art_map.proofs.map.ByteMap.value_or_try.Goals as goal

pub invariant_of-self : goal.invariant_of-self
invariant_of-self g c =
    tried_holds g.K.AsBytes.bytes g.row.P _ c.leaf_tried.new.store c.leaf_tried.new.root c.leaf_tried.new.len _
    (g.F.FnOnce.post c.args.make tt) c.leaf_tried.result c.leaf_tried.ensures

pub unwrap-requires : goal.unwrap-requires
unwrap-requires g c =
    let (value, made, (held, named, free)) = c.in-Ok.ensures in
    let there = is_there g.K.AsBytes.bytes g.row.P (g.K.AsBytes.bytes c.args.key) named in
    sym (is_some-map (λ lent. lent.now) c.value_mut.result) ∙ ap is_some c.value_mut.ensures.value ∙ is_some-map (λ node. node.value) _ ∙ there

pub returns-in-Err : goal.returns-in-Err
returns-in-Err g c =
    let bytes = g.K.AsBytes.bytes in
    let (held, refused) = c.in-Err.ensures in
    let seen = view_of (of_key bytes) g.row.P c.leaf_tried.new.store held ∙ c.self.view_is in (
      ap (λ s. inr s) seen,
      record {
        writes_back = tt;
        value = tt;
        accepted = tt;
        refused = subst (λ pairs. IsMakeRefusal bytes c.args.key (g.F.FnOnce.post c.args.make tt) pairs c.in-Err.error)
            c.self.view_is refused;
      },
    )

pub invariant_of-self-lent : goal.invariant_of-self-lent
invariant_of-self-lent g c w =
    let bytes = g.K.AsBytes.bytes in
    let (value, made, (held, named, free)) = c.in-Ok.ensures in
    holds (of_key bytes) g.row.P _ (value_written bytes g.row.P (bytes c.args.key) named (holds (of_key bytes) g.row.P c.leaf_tried.new.store held) w)

pub returns : goal.returns
returns g c =
    let bytes = g.K.AsBytes.bytes in
    let key = bytes c.args.key in
    let (value, made, (held, named, free)) = c.in-Ok.ensures in
    let seen = view_of (of_key bytes) g.row.P c.leaf_tried.new.store held in
    let rising = map_held (of_key bytes) g.row.P c.self.inside.store c.self.invariant in
    let left = λ (w : g.row.V.Denot).
    view_of (of_key bytes) g.row.P _ (value_written bytes g.row.P key named (holds (of_key bytes) g.row.P c.leaf_tried.new.store held) w)
    ∙ ap (with_value_at bytes key w) seen ∙ new_written bytes c.args.key _ rising value w ∙ ap (put (of_key bytes) (c.args.key, w)) c.self.view_is in (
      lends_same left,
      record {
        writes_back = tt;
        value = unwraps (λ value. g.F.FnOnce.post c.args.make tt (Ok value)) (value_at bytes key c.args.self.now) value c.unwrap.result.now
            (λ none. made (none_stored bytes key _ (ap (value_at bytes key) c.self.view_is ∙ none)))
            (one_value ((rw c.unwrap.ensures at c.value_mut.ensures.value) ∙ value_read bytes g.row.P key named seen ∙ new_value bytes c.args.key _ rising value
            ∙ ap (λ pairs. Some (unwrap_or (value_at bytes key pairs) value)) c.self.view_is));
        accepted = rw c.self.view_is at free;
        refused = tt;
      },
    )
