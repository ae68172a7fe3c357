use Rattle.std.proofs.Common.{subst}
use Rattle.art_model.specs.Prelude.{of_key}
use Rattle.art_writing.proofs.KeysFound.{stored_free}
use Rattle.art_map.specs.MapChanges.{HasKeyAt}
use Rattle.art_changing.specs.MapPairs.{pairs_at}
use Rattle.art_map.proofs.Near.{near_named, value_put, value_replaced}
use Rattle.art_changing.proofs.ViewsOfPairs.{map_held}
use Rattle.art_map.proofs.WrittenValues.{is_stored}
use Rattle.art_map.proofs.map.near.put_near.Goals as goal

pub returns-then-has_key_at : goal.returns-then-has_key_at
returns-then-has_key_at g c =
    let bytes = g.K.AsBytes.bytes in
    let s = c.args.store.now in
    let leaf = c.in-Some.leaf in
    let at = subst (HasKeyAt bytes s leaf) c.as_bytes.ensures (c.has_key_at.ensures c.if-has_key_at.true) in
    let named = near_named bytes g.row.P (bytes c.args.key) leaf at c.requires in (
      value_put bytes g.row.P c.args.key c.args.value leaf at c.requires c.swap_value.ensures.leaves c.swap_value.ensures.inners,
      value_replaced bytes g.row.P c.args.key c.swap_value.result leaf at c.requires c.swap_value.ensures.value c.args.value,
      stored_free (of_key bytes) (bytes c.args.key) (pairs_at s c.args.root.now) (map_held (of_key bytes) g.row.P s c.requires)
          (is_stored bytes g.row.P (bytes c.args.key) named),
    )
