use Rattle.std.proofs.Common.{ap, sym, ◌∙◌, rules, is_some}
use Rattle.art_model.specs.Prelude.{of_key}
use Rattle.art_changing.specs.MapAnswers.{with_value_at}
use Rattle.art_changing.proofs.MapPuts.{canonical_root, is_some-map}
use Rattle.art_changing.proofs.ViewsOfPairs.{holds, view_of}
use Rattle.art_map.proofs.WrittenValues.{leaf_named, lends_same, some_of, value_read, value_written}
use Rattle.art_map.proofs.map.ByteMap.get_mut.Goals as goal

pub search_unchecked-requires : goal.search_unchecked-requires
search_unchecked-requires g c = (search rules, canonical_root c.in_ok-self.was c.self.invariant)

pub invariant_of-self-lent : goal.invariant_of-self-lent
invariant_of-self-lent g c lent =
    let bytes = g.K.AsBytes.bytes in
    let key = c.args.key_bytes.now in (
      λ w. holds (of_key bytes) g.row.P _ (value_written bytes g.row.P key
          (leaf_named bytes g.row.P key c.in_ok-self.was c.self.invariant c.in_ok-leaf.ensures.leaf w) c.self.invariant w),
      c.self.invariant,
    )

pub returns : goal.returns
returns g c =
    let bytes = g.K.AsBytes.bytes in
    let key = c.args.key_bytes.now in
    let named = leaf_named bytes g.row.P key c.in_ok-self.was c.self.invariant c.in_ok-leaf.ensures.leaf in
    let left = λ (w : g.row.V.Denot).
    view_of (of_key bytes) g.row.P _ (value_written bytes g.row.P key (named w) c.self.invariant w) ∙ ap (with_value_at bytes key w) c.self.view_is in
    let lent = c.value_mut.ensures.value in
    let (r, is) = some_of c.value_mut.result
    (sym (is_some-map (λ x. x.now) c.value_mut.result) ∙ ap is_some lent ∙ is_some-map (λ node. node.value) _
    ∙ c.in_ok-leaf.ensures.there) in
    rw is (lends_same left, record { writes_back = tt; value = rw is at lent ∙ value_read bytes g.row.P key (named r.now) c.self.view_is })
