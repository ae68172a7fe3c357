use Rattle.std.proofs.Common.{refl, rules, sym, subst}
use Rattle.art_model.specs.Prelude.{of_key}
use Rattle.art_writing.proofs.KeysFound.{stored_free}
use Rattle.art_changing.specs.MapPairs.{HoldsPairs, pairs_at}
use Rattle.art_map.proofs.EnteredLeaves.{new_replaces, position_new}
use Rattle.art_changing.proofs.ViewsOfPairs.{map_held}
use Rattle.art_map.proofs.WrittenValues.{is_stored, is_there, pair_swapped, pair_written}
use Rattle.art_map.proofs.map.replace.replace_in.Goals as goal

pub swap_pair-requires : goal.swap_pair-requires
swap_pair-requires g c =
    let bytes = g.K.AsBytes.bytes in
    let named = rw c.as_bytes.ensures at c.in-Leaf.ensures in
    (search rules, is_there bytes g.row.P (bytes c.args.key) named)

pub returns-in-Leaf : goal.returns-in-Leaf
returns-in-Leaf g c =
    let bytes = g.K.AsBytes.bytes in
    let key = bytes c.args.key in
    let named = rw c.as_bytes.ensures at c.in-Leaf.ensures in
    let rising = map_held (of_key bytes) g.row.P c.args.store.now c.requires in (
      pair_written bytes g.row.P key named (c.args.key, c.args.value) refl c.requires c.swap_pair.ensures.leaves c.swap_pair.ensures.inners,
      pair_swapped bytes g.row.P key named c.swap_pair.ensures.pair,
      stored_free (of_key bytes) key (pairs_at c.args.store.now c.args.root.now) rising (is_stored bytes g.row.P key named),
    )

pub returns-in-Ok : goal.returns-in-Ok
returns-in-Ok g c =
    let bytes = g.K.AsBytes.bytes in
    let placed = rw c.as_bytes.ensures at c.position_of-position.ensures in
    let none = position_new bytes g.row.P (bytes c.args.key) c.requires c.position_of-position.result placed c.in_default.not-Leaf in
    let (same, gone) = new_replaces bytes (c.args.key, c.args.value) (pairs_at c.args.store.now c.args.root.now) none in
    let (held, named, free) = c.in-Ok.ensures in
    (subst (HoldsPairs (of_key bytes) g.row.P c.enter.new.store c.enter.new.root c.enter.new.len) (sym same) held, gone, free)
