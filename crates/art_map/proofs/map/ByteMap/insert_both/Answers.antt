use Rattle.std.proofs.Common.{rules, subst, Ok}
use Rattle.art_model.specs.Prelude.{of_key}
use Rattle.art_map.specs.Reserved.{IsReserved}
use Rattle.art_map.proofs.Reserving.{seen_after}
use Rattle.art_map.proofs.Results.{put_holds, tells_put}
use Rattle.art_map.proofs.map.ByteMap.insert_both.Goals as goal

pub invariant_of-self : goal.invariant_of-self
invariant_of-self g c =
    (seen_after (of_key g.K.AsBytes.bytes) g.row.P c.self.inside.store c.reserve_place.new.store c.reserve_place.ensures.leaves
    c.reserve_place.ensures.inners c.self.invariant c.self.view_is).0

pub returns-in-Err-clause-kept : goal.returns-in-Err-clause-kept
returns-in-Err-clause-kept g c =
    (seen_after (of_key g.K.AsBytes.bytes) g.row.P c.self.inside.store c.reserve_place.new.store c.reserve_place.ensures.leaves
    c.reserve_place.ensures.inners c.self.invariant c.self.view_is).1

pub put_reserved-requires : goal.put_reserved-requires
put_reserved-requires g c = (
  search rules,
  (
    (seen_after (of_key g.K.AsBytes.bytes) g.row.P c.self.inside.store c.reserve_place.new.store c.reserve_place.ensures.leaves
        c.reserve_place.ensures.inners c.self.invariant c.self.view_is).0,
    subst (λ key. IsReserved g.K.AsBytes.bytes g.row.P c.reserve_place.new.store c.self.inside.root key c.in-Ok.place)
        c.as_bytes.ensures c.in-Ok.ensures.reserved,
  ),
)

pub invariant_of-self-in-Ok-insert : goal.invariant_of-self-in-Ok-insert
invariant_of-self-in-Ok-insert g c =
    put_holds g.K.AsBytes.bytes g.row.P _ c.put_reserved.new.store c.put_reserved.new.root c.put_reserved.new.len c.args.pair.0
    c.args.pair.1 (Ok c.put_reserved.result) c.put_reserved.ensures

pub returns-in-Ok-insert-clause-pairs : goal.returns-in-Ok-insert-clause-pairs
returns-in-Ok-insert-clause-pairs g c =
    let seen = seen_after (of_key g.K.AsBytes.bytes)
    g.row.P c.self.inside.store c.reserve_place.new.store c.reserve_place.ensures.leaves c.reserve_place.ensures.inners
    c.self.invariant c.self.view_is in
    (tells_put g.K.AsBytes.bytes g.row.P _ c.put_reserved.new.store c.put_reserved.new.root c.put_reserved.new.len c.args.pair.0
    c.args.pair.1 seen.1 (Ok c.put_reserved.result) c.put_reserved.ensures).pairs

pub returns-in-Ok-insert-clause-replaced : goal.returns-in-Ok-insert-clause-replaced
returns-in-Ok-insert-clause-replaced g c =
    let seen = seen_after (of_key g.K.AsBytes.bytes)
    g.row.P c.self.inside.store c.reserve_place.new.store c.reserve_place.ensures.leaves c.reserve_place.ensures.inners
    c.self.invariant c.self.view_is in
    (tells_put g.K.AsBytes.bytes g.row.P _ c.put_reserved.new.store c.put_reserved.new.root c.put_reserved.new.len c.args.pair.0
    c.args.pair.1 seen.1 (Ok c.put_reserved.result) c.put_reserved.ensures).replaced

pub returns-in-Ok-insert-clause-accepted : goal.returns-in-Ok-insert-clause-accepted
returns-in-Ok-insert-clause-accepted g c =
    let seen = seen_after (of_key g.K.AsBytes.bytes)
    g.row.P c.self.inside.store c.reserve_place.new.store c.reserve_place.ensures.leaves c.reserve_place.ensures.inners
    c.self.invariant c.self.view_is in
    (tells_put g.K.AsBytes.bytes g.row.P _ c.put_reserved.new.store c.put_reserved.new.root c.put_reserved.new.len c.args.pair.0
    c.args.pair.1 seen.1 (Ok c.put_reserved.result) c.put_reserved.ensures).accepted

pub invariant_of-self-in-Err-insert : goal.invariant_of-self-in-Err-insert
invariant_of-self-in-Err-insert g c =
    (seen_after (of_key g.K.AsBytes.bytes) g.row.P c.self.inside.store c.reserve_place.new.store c.reserve_place.ensures.leaves
    c.reserve_place.ensures.inners c.self.invariant c.self.view_is).0

pub returns-in-Err-insert-clause-kept : goal.returns-in-Err-insert-clause-kept
returns-in-Err-insert-clause-kept g c =
    (seen_after (of_key g.K.AsBytes.bytes) g.row.P c.self.inside.store c.reserve_place.new.store c.reserve_place.ensures.leaves
    c.reserve_place.ensures.inners c.self.invariant c.self.view_is).1
