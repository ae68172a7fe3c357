use Rattle.std.proofs.Common.{Some, refl}
use Rattle.art_model.specs.Prelude.{of_key, remove_reply, with_key}
use Rattle.art_model.proofs.pairs.Puts.{first_none}
use Rattle.art_writing.proofs.KeysFound.{point_none, point_some, removed_key}
use Rattle.art_changing.specs.MapPairs.{pairs_at}
use Rattle.art_changing.proofs.MapPuts.{at_some}
use Rattle.art_map.proofs.map.position.leaf_by.Goals as goal

pub returns-in_err-point-clause-leaf : goal.returns-in_err-point-clause-leaf
returns-in_err-point-clause-leaf g c =
    let B = of_key g.K.AsBytes.bytes in
    let key = g.B.KeyBytes.key c.args.key.now in
    let pairs = pairs_at c.args.store.now (Some c.args.root) in
    let has = at_some refl c.requires.1 in
    rw c.from_residual.ensures (first_none (with_key B key pairs)
    (point_none has.layout (remove_reply B key pairs) (c.in_err-point.ensures.point.point pairs has.layout has.by)))

pub returns-clause-leaf : goal.returns-clause-leaf
returns-clause-leaf g c =
    let B = of_key g.K.AsBytes.bytes in
    let key = g.B.KeyBytes.key c.args.key.now in
    let pairs = pairs_at c.args.store.now (Some c.args.root) in
    let has = at_some refl c.requires.1 in
    let (x, e, leads) =
    point_some has.layout c.in_ok-point.point (remove_reply B key pairs) (c.in_ok-point.ensures.point.point pairs has.layout has.by) in
    record {
      name = c.args.root;
      pairs = pairs;
      layout = has.layout;
      pair = x;
      root_is = refl;
      by = has.by;
      has = record { path = leads.path; whole = leads.whole };
      key_is = removed_key B key pairs x e;
    }
