use Rattle.std.proofs.Common.{[], ◌≡◌, ap, inr, sym, ◌∙◌, subst, rules, is_some, option_map}
use Rattle.art_model.specs.Prelude.{first_of, of_key, with_key}
use Rattle.art_changing.specs.MapAnswers.{value_at, with_value_at}
use Rattle.art_map.specs.MapChanges.{NamesLeafOf}
use Rattle.art_changing.specs.MapPairs.{pairs_at}
use Rattle.art_changing.proofs.MapPuts.{held_there, is_some-map}
use Rattle.art_changing.proofs.ViewsOfPairs.{holds, view_of}
use Rattle.art_map.proofs.WrittenValues.{is_there, lends_same, some_of, value_read, value_written}
use Rattle.art_map.proofs.map.ByteMap.get_mut_near.Goals as goal

pub leaf_near-requires : goal.leaf_near-requires
leaf_near-requires g c = (search rules, (c.self.inside.len, held_there c.in_ok-self.was c.self.invariant))

pub returns-in_err-leaf : goal.returns-in_err-leaf
returns-in_err-leaf g c =
    let bytes = g.K.AsBytes.bytes in
    let key = g.Q.KeyBytes.key c.args.query in
    let s = c.self.inside.store in
    let none = subst (λ r. with_key (of_key bytes) key (pairs_at s r) ≡ []) (sym c.in_ok-self.was) c.in_err-leaf.ensures in
    rw c.from_residual-in_err-leaf.ensures (
      ap (λ s. inr s) c.self.view_is,
      record {
        writes_back = tt;
        value = sym (ap (λ xs. option_map (λ x. x.1) (first_of xs)) none) ∙ ap (value_at bytes key) c.self.view_is;
      },
    )

pub invariant_of-self-lent : goal.invariant_of-self-lent
invariant_of-self-lent g c lent =
    let bytes = g.K.AsBytes.bytes in
    let key = g.Q.KeyBytes.key c.args.query in
    let s = c.self.inside.store in
    let named = subst (λ r. NamesLeafOf bytes g.row.P s r key c.in_ok-leaf.leaf) (sym c.in_ok-self.was) c.in_ok-leaf.ensures in
    (λ w. holds (of_key bytes) g.row.P _ (value_written bytes g.row.P key named c.self.invariant w), c.self.invariant)

pub returns : goal.returns
returns g c =
    let bytes = g.K.AsBytes.bytes in
    let key = g.Q.KeyBytes.key c.args.query in
    let s = c.self.inside.store in
    let named = subst (λ r. NamesLeafOf bytes g.row.P s r key c.in_ok-leaf.leaf) (sym c.in_ok-self.was) c.in_ok-leaf.ensures in
    let left = λ (w : g.row.V.Denot).
    view_of (of_key bytes) g.row.P _ (value_written bytes g.row.P key named c.self.invariant w)
    ∙ ap (with_value_at bytes key w) c.self.view_is in
    let lent = c.value_mut.ensures.value in
    let (r, is) = some_of c.value_mut.result
    (sym (is_some-map (λ x. x.now) c.value_mut.result) ∙ ap is_some lent ∙ is_some-map (λ node. node.value) _
    ∙ is_there bytes g.row.P key named) in
    rw is (lends_same left, record { writes_back = tt; value = rw is at lent ∙ value_read bytes g.row.P key named c.self.view_is })
