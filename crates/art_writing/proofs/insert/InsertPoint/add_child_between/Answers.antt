use Rattle.std.proofs.Common.{rules, ◌∙◌, ap, refl, sym, subst, get_or, Some, IsTrue}
use Rattle.std.specs.FinMap as map
use Rattle.art_model.specs.Prelude.{larger_kind, covers, promises, take_leaf, of_key, is_covered, IsThere}
use Rattle.art_model.specs.Promises.{inner_taken}
use Rattle.art_writing.specs.Inserted.{placed_for}
use Rattle.art_writing.specs.ParentWrites.{HasChild}
use Rattle.art_reading.specs.PathSteps.{last_step}
use Rattle.art_writing.proofs.Applied.{applied, granted, handed_back}
use Rattle.art_writing.proofs.Entered.{beside_for, entry, entry_at, entry_gap, entry_met, entry_parent}
use Rattle.art_writing.proofs.LeftByPoints.{IsInserted}
use Rattle.art_writing.proofs.LeafAdded.{asked_of, previous_is_there, next_is_there, room_inserted, full_inserted, has_room, larger_has_room, asked_full, asked_room}
use Rattle.art_writing.proofs.Reserved.{leaf_promised, inner_promised, after_reserve, is_none, not_granted, not_refused, was_refused}
use Rattle.art_writing.proofs.insert.InsertPoint.add_child_between.Goals as goal

pub inner_at-requires : goal.inner_at-requires
inner_at-requires g c =
    let (pairs, layout, by, own) = c.requires.answers in
    (search rules, (search rules, entry_met by (entry c.requires.answers c.requires.point refl by)))

pub returns-then-is_err-clause-memory : goal.returns-then-is_err-clause-memory
returns-then-is_err-clause-memory g c =
    handed_back (λ covered. not_granted c.reserve.result (sym c.is_err.ensures.value ∙ c.if-is_err.true) c.reserve.ensures.succeeds
    (subst (λ kind. IsTrue (covers c.args.store.now.promise 1 kind)) (sym (c.larger_if_full-larger.ensures ∙ asked_of c.args.store.now c.args.inner_node_ptr c.inner_at.ensures.kind (sym c.inner_at.ensures.view)))
    (subst (λ kind. IsTrue (is_covered (placed_for c.args.store.now kind) c.args.store.now.promise)) c.requires.point covered)))
    c.reserve.ensures.leaves c.reserve.ensures.inners (was_refused c.reserve.result (sym c.is_err.ensures.value ∙ c.if-is_err.true) c.reserve.ensures.refused)

pub place_between-leaf_node_ptr-requires : goal.place_between-leaf_node_ptr-requires
place_between-leaf_node_ptr-requires g c =
    let (pairs, layout, by, own) = c.requires.answers in
    let e = entry c.requires.answers c.requires.point (ap (λ l. get_or l c.args.self.key_bytes_used 0) c.as_bytes-key_bytes.ensures) by in
    let beside = beside_for c.args.self.key_bytes_used c.as_bytes-key_bytes.ensures c.requires.beside e.left e.right (entry_gap by e) in
    let same = sym c.reserve.ensures.leaves in (
      search rules,
      (
        leaf_promised c.reserve.new.self.promise c.larger_if_full-larger.result
            (not_refused c.reserve.result (sym c.is_err.ensures.value ∙ c.if-is_err.false) c.reserve.ensures.reserved),
        (
          subst (λ m. IsThere m c.args.links.0) same (previous_is_there c.args.self (c.args.key, c.args.value) by e _ _ beside),
          subst (λ m. IsThere m c.args.links.1) same (next_is_there c.args.self (c.args.key, c.args.value) by e _ _ beside),
        ),
      ),
    )

pub put_larger-requires : goal.put_larger-requires
put_larger-requires g c =
    let (pairs, layout, by, own) = c.requires.answers in
    let e = entry c.requires.answers c.requires.point (ap (λ l. get_or l c.args.self.key_bytes_used 0) c.as_bytes-key_bytes.ensures) by in
    let same = c.place_between-leaf_node_ptr.ensures.inners ∙ c.reserve.ensures.inners in
    let p = c.args.inner_node_ptr in
    let larger = (c.larger_if_full-larger.ensures ∙ asked_of c.args.store.now c.args.inner_node_ptr c.inner_at.ensures.kind (sym c.inner_at.ensures.view)) in
    let (full, last, asked) = asked_full c.args.self (c.args.key, c.args.value) by e c.requires.few larger (sym c.is_some.ensures ∙ c.if-is_some.true) in
    let covered = not_refused c.reserve.result (sym c.is_err.ensures.value ∙ c.if-is_err.false) c.reserve.ensures.reserved in (
      search rules,
      (
        last,
        (
          larger_has_room c.args.self (c.args.key, c.args.value) by e last c.place_between-leaf_node_ptr.new.store.inners same,
          (
            subst (λ promise. IsTrue (promises promise.inner (larger_kind p.kind))) (sym c.place_between-leaf_node_ptr.ensures.promise)
                (inner_promised c.reserve.new.self.promise (larger_kind p.kind) (ap (covers c.reserve.new.self.promise 1) (sym asked) ∙ covered)),
            subst (λ m. HasChild (map.remove m p) (last_step c.args.self.path)) (sym same) (entry_parent by e),
          ),
        ),
      ),
    )

pub returns-then-is_some-clause-applied : goal.returns-then-is_some-clause-applied
returns-then-is_some-clause-applied g c =
    applied g.K.AsBytes.bytes c.requires.answers (λ pairs layout by at.
    let (e, same) = entry_at c.requires.point at (ap (λ l. get_or l c.args.self.key_bytes_used 0) c.as_bytes-key_bytes.ensures) by in
    let beside = beside_for c.args.self.key_bytes_used c.as_bytes-key_bytes.ensures c.requires.beside e.left e.right (entry_gap by e) in
    let larger = (c.larger_if_full-larger.ensures ∙ asked_of c.args.store.now c.args.inner_node_ptr c.inner_at.ensures.kind (sym c.inner_at.ensures.view)) in
    let (full, last, asked) = asked_full c.args.self (c.args.key, c.args.value) by e c.requires.few larger (sym c.is_some.ensures ∙ c.if-is_some.true) in
    subst (λ up. IsInserted (of_key g.K.AsBytes.bytes) g.row.P c.args.store.now _ c.args.self (c.args.key, c.args.value) pairs layout up _) same
    (full_inserted c.args.self (c.args.key, c.args.value) by e _ _ beside c.reserve.new.self c.place_between-leaf_node_ptr.new.store
    c.reserve.ensures.leaves c.reserve.ensures.inners c.place_between-leaf_node_ptr.ensures.fresh c.place_between-leaf_node_ptr.ensures.leaves
    c.place_between-leaf_node_ptr.ensures.inners c.to_opaque-child.ensures c.put_larger.new.store c.put_larger.ensures.leaves full last
    c.put_larger.result.0 c.put_larger.ensures.kind c.put_larger.ensures.fresh c.put_larger.ensures.inners c.requires.point
    c.put_larger.ensures.root _ c.new_child.ensures))

pub returns-then-is_some-clause-memory : goal.returns-then-is_some-clause-memory
returns-then-is_some-clause-memory g c =
    let (pairs, layout, own, answers) = c.requires.answers in
    let entered = entry c.requires.answers c.requires.point (ap (λ l. get_or l c.args.self.key_bytes_used 0) c.as_bytes-key_bytes.ensures) own in
    let larger = (c.larger_if_full-larger.ensures ∙ asked_of c.args.store.now c.args.inner_node_ptr c.inner_at.ensures.kind (sym c.inner_at.ensures.view)) in
    let asked = (asked_full c.args.self (c.args.key, c.args.value) own entered c.requires.few larger (sym c.is_some.ensures ∙ c.if-is_some.true)).2 in
    granted
    (c.put_larger.ensures.promise
    ∙ ap (λ promise. inner_taken (Some (larger_kind c.args.inner_node_ptr.kind)) promise) c.place_between-leaf_node_ptr.ensures.promise
    ∙ ap (λ kind. inner_taken kind (take_leaf c.reserve.new.self.promise)) (sym asked)
    ∙ after_reserve c.args.store.now c.reserve.new.self c.larger_if_full-larger.result c.reserve.result (sym c.is_err.ensures.value ∙ c.if-is_err.false)
    c.reserve.ensures.covered c.reserve.ensures.granted
    (ap (λ kind. record { leaves = 1; inner = kind }) (c.larger_if_full-larger.ensures ∙ asked_of c.args.store.now c.args.inner_node_ptr c.inner_at.ensures.kind (sym c.inner_at.ensures.view)) ∙ ap (placed_for c.args.store.now) (sym c.requires.point)))

pub write_child-requires : goal.write_child-requires
write_child-requires g c =
    let (pairs, layout, by, own) = c.requires.answers in
    let e = entry c.requires.answers c.requires.point (ap (λ l. get_or l c.args.self.key_bytes_used 0) c.as_bytes-key_bytes.ensures) by in
    let p = c.args.inner_node_ptr in
    let same = c.place_between-leaf_node_ptr.ensures.inners ∙ c.reserve.ensures.inners in
    let room = asked_room c.args.self (c.args.key, c.args.value)
    by e c.requires.few (c.larger_if_full-larger.ensures ∙ asked_of c.args.store.now c.args.inner_node_ptr c.inner_at.ensures.kind (sym c.inner_at.ensures.view)) (sym c.is_some.ensures ∙ c.if-is_some.false) in
    (search rules, has_room c.args.self (c.args.key, c.args.value) by e room c.place_between-leaf_node_ptr.new.store.inners same)

pub returns-clause-applied : goal.returns-clause-applied
returns-clause-applied g c =
    applied g.K.AsBytes.bytes c.requires.answers (λ pairs layout by at.
    let (e, same) = entry_at c.requires.point at (ap (λ l. get_or l c.args.self.key_bytes_used 0) c.as_bytes-key_bytes.ensures) by in
    let beside = beside_for c.args.self.key_bytes_used c.as_bytes-key_bytes.ensures c.requires.beside e.left e.right (entry_gap by e) in
    let room = asked_room c.args.self (c.args.key, c.args.value)
    by e c.requires.few (c.larger_if_full-larger.ensures ∙ asked_of c.args.store.now c.args.inner_node_ptr c.inner_at.ensures.kind (sym c.inner_at.ensures.view)) (sym c.is_some.ensures ∙ c.if-is_some.false) in
    subst (λ up. IsInserted (of_key g.K.AsBytes.bytes) g.row.P c.args.store.now _ c.args.self (c.args.key, c.args.value) pairs layout up _) same
    (room_inserted c.args.self (c.args.key, c.args.value) by e _ _ beside c.reserve.new.self c.place_between-leaf_node_ptr.new.store
    c.reserve.ensures.leaves c.reserve.ensures.inners c.place_between-leaf_node_ptr.ensures.fresh c.place_between-leaf_node_ptr.ensures.leaves
    c.place_between-leaf_node_ptr.ensures.inners c.to_opaque-child.ensures c.write_child.new.self c.write_child.ensures.leaves room
    c.write_child.ensures.inners c.requires.point _ c.new_child-2.ensures))

pub returns-clause-memory : goal.returns-clause-memory
returns-clause-memory g c =
    let none = is_none c.larger_if_full-larger.result (sym c.is_some.ensures ∙ c.if-is_some.false) in
    granted
    (c.write_child.ensures.promise
    ∙ c.place_between-leaf_node_ptr.ensures.promise
    ∙ ap (λ kind. inner_taken kind (take_leaf c.reserve.new.self.promise)) (sym none)
    ∙ after_reserve c.args.store.now c.reserve.new.self c.larger_if_full-larger.result c.reserve.result
    (sym c.is_err.ensures.value ∙ c.if-is_err.false) c.reserve.ensures.covered c.reserve.ensures.granted
    (ap (λ kind. record { leaves = 1; inner = kind }) (c.larger_if_full-larger.ensures ∙ asked_of c.args.store.now c.args.inner_node_ptr c.inner_at.ensures.kind (sym c.inner_at.ensures.view)) ∙ ap (placed_for c.args.store.now) (sym c.requires.point)))
