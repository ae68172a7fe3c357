use Rattle.std.proofs.Common.{◌≡◌, ◌+◌, [], ◌∷◌, rules, refl, ap, sym, ◌∙◌, arith, None}
use Rattle.art_model.specs.Prelude.{leaf_name, of_key, leaf}
use Rattle.art_writing.proofs.KeysFound.{conflict_new, stored_free}
use Rattle.art_writing.proofs.OneLeaf as one_leaf
use Rattle.art_changing.specs.MapPairs.{pairs_at}
use Rattle.art_changing.proofs.Enough.{enough}
use Rattle.art_map.proofs.EnteredLeaves.{leaf_of_result, new_is_put, none_back, point_new}
use Rattle.art_changing.proofs.Items.{no_pairs}
use Rattle.art_changing.proofs.MapPuts.{at_some, left_holds, one_more, planted, stays}
use Rattle.art_changing.proofs.ViewsOfPairs.{map_held}
use Rattle.art_map.proofs.WrittenValues.{is_stored}
use Rattle.art_map.proofs.map.position.enter.Goals as goal

pub one_more-requires : goal.one_more-requires
one_more-requires g c =
    let bytes = g.K.AsBytes.bytes in
    let pairs = pairs_at c.args.store.now c.args.root.now in
    let (root_is, point_in, off, free) = rw c.in-Point.is at c.requires.position in
    let has = at_some root_is c.requires.holds in
    let none = point_new bytes g.row.P root_is point_in off in
    let more = one_more bytes (c.args.key, c.args.value) pairs has.by.is_map (none_back bytes (c.args.key, c.args.value) pairs none) in
    let counted = has.len_is in
    let most = enough (c.in-Ok-apply.ensures.applied.canonical pairs has.layout has.by).1 in
    (search rules, omega arith)

pub returns-in-Leaf : goal.returns-in-Leaf
returns-in-Leaf g c =
    let bytes = g.K.AsBytes.bytes in
    let named = rw c.in-Leaf.is at c.requires.position in
    let stored = is_stored bytes g.row.P (bytes c.args.key) named in
    rw stored (
      c.requires.holds,
      named,
      stored_free (of_key bytes) (bytes c.args.key) (pairs_at c.args.store.now c.args.root.now)
          (map_held (of_key bytes) g.row.P c.args.store.now c.requires.holds) stored,
    )

pub returns-in-Ok : goal.returns-in-Ok
returns-in-Ok g c =
    let bytes = g.K.AsBytes.bytes in
    let at = c.in-Ok.ensures.planted in
    let bare : c.args.root.now ≡ None = rw c.in-Bare.is at c.requires.position in
    rw (no_pairs (of_key bytes) g.row.P c.args.store.now bare c.requires.holds, c.to_opaque.ensures) (
      planted bytes g.row.P (rw bare at c.requires.holds) at,
      record {
        name = leaf_name c.in-Ok.leaf;
        pairs = (c.args.key, c.args.value) ∷ [];
        layout = leaf (leaf_name c.in-Ok.leaf) (c.args.key, c.args.value);
        pair = (c.args.key, c.args.value);
        root_is = refl;
        by = one_leaf.planted bytes g.row.P at;
        has = record { path = []; whole = refl };
        key_is = refl;
      },
      refl,
    )

pub returns-in-Ok-apply : goal.returns-in-Ok-apply
returns-in-Ok-apply g c =
    let bytes = g.K.AsBytes.bytes in
    let new : g.row.K.Denot × g.row.V.Denot = (c.args.key, c.args.value) in
    let pairs = pairs_at c.args.store.now c.args.root.now in
    let (root_is, point_in, off, free) = rw c.in-Point.is at c.requires.position in
    let has = at_some root_is c.requires.holds in
    let none = point_new bytes g.row.P root_is point_in off in
    let more = one_more bytes new pairs has.by.is_map (none_back bytes new pairs none) in
    let after = c.in-Ok-apply.ensures.applied.canonical pairs has.layout has.by in
    rw (sym (new_is_put bytes new pairs none)) (
      left_holds (of_key bytes) g.row.P has after (c.in-Ok-apply.ensures.applied.kept pairs has.layout has.by)
          (c.one_more.ensures ∙ ap (λ n. n + 1) has.len_is ∙ sym more),
      leaf_of_result bytes g.row.P new _ c.in-Ok-apply.done after c.in-Ok-apply.ensures.applied.leaf,
      free,
    )

pub returns-in-Err-apply : goal.returns-in-Err-apply
returns-in-Err-apply g c =
    let bytes = g.K.AsBytes.bytes in
    let (root_is, point_in, off, free) = rw c.in-Point.is at c.requires.position in
    rw c.without_memory-in-Err-apply.ensures (
      stays (of_key bytes) g.row.P c.args.store.now c.apply.new.store c.in-Err-apply.ensures.memory.leaves c.in-Err-apply.ensures.memory.inners c.requires.holds,
      (c.in-Err-apply.ensures.memory.handed_back.0, c.in-Err-apply.ensures.memory.handed_back.1, point_new bytes g.row.P root_is point_in off),
    )

pub returns-in-Refused-Memory : goal.returns-in-Refused-Memory
returns-in-Refused-Memory g c =
    let bytes = of_key g.K.AsBytes.bytes in
    let (any, related) = rw c.in-Refused-Memory.is at c.requires.position in
    let pairs = pairs_at c.args.store.now c.args.root.now in
    (c.requires.holds, (refl, refl, conflict_new bytes (g.K.AsBytes.bytes c.args.key) pairs (map_held bytes g.row.P c.args.store.now c.requires.holds) related))
