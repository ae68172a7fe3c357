use Rattle.std.proofs.Common.{rules, Some}
use Rattle.art_model.specs.Pairs.{of_key, put}
use Rattle.art_operations.proofs.CallerLemmas.{both_changed, both_same}
use Rattle.uses.proofs.Both.{first_canonical, second_changed}
use Rattle.uses.proofs.leases.begin.Goals as goal

pub returns-in_default-clause-refused : goal.returns-in_default-clause-refused
returns-in_default-clause-refused g c ids ends h = (
  ends,
  both_same (of_key g.K.AsBytes.bytes)
      g.row.P c.args.store.now c.put_in.new.store c.in_default.ensures.leaves c.in_default.ensures.inners c.args.roots.by_id
      c.args.roots.by_end h,
)

pub returns-in_default-clause-left : goal.returns-in_default-clause-left
returns-in_default-clause-left g c =
    let (ids, ends, h) = c.requires in (
      ids,
      ends,
      both_same (of_key g.K.AsBytes.bytes)
          g.row.P c.args.store.now c.put_in.new.store c.in_default.ensures.leaves c.in_default.ensures.inners c.args.roots.by_id
          c.args.roots.by_end h,
    )

pub put_in-requires-2 : goal.put_in-requires-2
put_in-requires-2 g c =
    let B = of_key {V = g.row.V.Denot} g.K.AsBytes.bytes in
    let (ids, ends, h) = c.requires in
    let mid = second_changed B g.row.P c.args.store.now c.put_in.new.store c.args.roots.by_id c.args.roots.by_end
    (Some c.in-Some.end_root) ids ends (put B c.args.by_end ends)
    h (c.in-Some.ensures.pairs ends h.two) c.in-Some.ensures.apart in
    (search rules, first_canonical B g.row.P c.put_in.new.store c.args.roots.by_id (Some c.in-Some.end_root) ids (put B c.args.by_end ends) mid)

pub returns-in_default-put_in-clause-refused : goal.returns-in_default-put_in-clause-refused
returns-in_default-put_in-clause-refused g c ids ends h =
    let B = of_key {V = g.row.V.Denot} g.K.AsBytes.bytes in
    let mid = second_changed B g.row.P c.args.store.now c.put_in.new.store c.args.roots.by_id c.args.roots.by_end
    (Some c.in-Some.end_root) ids ends (put B c.args.by_end ends)
    h (c.in-Some.ensures.pairs ends h.two) c.in-Some.ensures.apart in (
      put B c.args.by_end ends,
      both_same B g.row.P c.put_in.new.store c.put_in-2.new.store c.in_default-put_in.ensures.leaves c.in_default-put_in.ensures.inners
          c.args.roots.by_id (Some c.in-Some.end_root) mid,
    )

pub returns-in_default-put_in-clause-left : goal.returns-in_default-put_in-clause-left
returns-in_default-put_in-clause-left g c =
    let B = of_key {V = g.row.V.Denot} g.K.AsBytes.bytes in
    let (ids, ends, h) = c.requires in
    let mid = second_changed B g.row.P c.args.store.now c.put_in.new.store c.args.roots.by_id c.args.roots.by_end
    (Some c.in-Some.end_root) ids ends (put B c.args.by_end ends)
    h (c.in-Some.ensures.pairs ends h.two) c.in-Some.ensures.apart in (
      ids,
      put B c.args.by_end ends,
      both_same B g.row.P c.put_in.new.store c.put_in-2.new.store c.in_default-put_in.ensures.leaves c.in_default-put_in.ensures.inners
          c.args.roots.by_id (Some c.in-Some.end_root) mid,
    )

pub returns-clause-begun : goal.returns-clause-begun
returns-clause-begun g c ids ends h =
    let B = of_key {V = g.row.V.Denot} g.K.AsBytes.bytes in
    let mid = second_changed B g.row.P c.args.store.now c.put_in.new.store c.args.roots.by_id c.args.roots.by_end
    (Some c.in-Some.end_root) ids ends (put B c.args.by_end ends)
    h (c.in-Some.ensures.pairs ends h.two) c.in-Some.ensures.apart in
    both_changed mid (c.in-Some-put_in.ensures.pairs ids mid.one) c.in-Some-put_in.ensures.apart

pub returns-clause-kept : goal.returns-clause-kept
returns-clause-kept g c =
    let (ids, ends, h) = c.requires in
    (put (of_key g.K.AsBytes.bytes) c.args.by_id ids, put (of_key g.K.AsBytes.bytes) c.args.by_end ends, returns-clause-begun g c ids ends h)
