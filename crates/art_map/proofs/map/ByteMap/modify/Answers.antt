use Rattle.std.proofs.Common.{ap, sym, ◌∙◌, refl}
use Rattle.art_model.specs.Prelude.{of_key}
use Rattle.art_changing.specs.MapAnswers.{with_value_at}
use Rattle.art_changing.proofs.ViewsOfPairs.{holds, view_of}
use Rattle.art_map.proofs.WrittenValues.{leaf_named, value_read, value_written}
use Rattle.art_map.proofs.map.ByteMap.modify.Goals as goal

pub invariant_of-self : goal.invariant_of-self
invariant_of-self g c =
    let bytes = g.K.AsBytes.bytes in
    let key = c.args.key_bytes.now in
    let named = leaf_named bytes g.row.P key c.in_ok-self.was c.self.invariant c.in_ok-leaf.ensures.leaf c.f.new.arg2 in
    holds (of_key bytes) g.row.P _ (value_written bytes g.row.P key named c.self.invariant c.f.new.arg2)

pub returns : goal.returns
returns g c =
    let bytes = g.K.AsBytes.bytes in
    let key = c.args.key_bytes.now in
    let left = c.f.new.arg2 in
    let named = leaf_named bytes g.row.P key c.in_ok-self.was c.self.invariant c.in_ok-leaf.ensures.leaf left in
    let after =
    view_of (of_key bytes) g.row.P _ (value_written bytes g.row.P key named c.self.invariant left)
    ∙ ap (with_value_at bytes key left) c.self.view_is in
    let found = (rw c.unwrap-value.ensures at c.value_mut.ensures.value) ∙ value_read bytes g.row.P key named c.self.view_is in
    rw (sym found) (left, record { shown = c.unwrap-value.result; shows = refl; left = _; met = c.f.ensures; leaves = refl }, after)
