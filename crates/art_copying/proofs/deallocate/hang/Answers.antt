use Rattle.std.proofs.Common.{◌∙◌, sym, refl, ap, rules}
use Rattle.std.specs.FinMap as map
use Rattle.art_model.specs.Prelude.{with_child, change, kind_capacity, as_inner}
use Rattle.art_nodes.proofs.StoreChanges.{inner_changed_elsewhere}
use Rattle.art_copying.proofs.OneTree.{child_moves, end_gone, fewer_below, first_has_place, has_children, is_end, moved_on, none_moved}
use Rattle.art_copying.proofs.deallocate.hang.Goals as goal

pub down-init : goal.down-init
down-init g c = record { moved = λ upper lower can. none_moved upper lower can; promise = refl; improper = λ name leaf. refl; leaves = refl }

-- ---- an end is below

pub free_end-freed-requires : goal.free_end-freed-requires
free_end-freed-requires g c =
    let (upper, lower, can) = c.requires in
    let is = c.down.invariant.moved upper lower can in
    (search rules, (is.below, is_end c.down.store is.below is.can.below.layout (sym c.in_default.is ∙ c.first_child.ensures), is.can.below))

pub returns-in_default-clause-joined : goal.returns-in_default-clause-joined
returns-in_default-clause-joined g c upper lower can =
    let is = c.down.invariant.moved upper lower can in
    let ends = is_end c.down.store is.below is.can.below.layout (sym c.in_default.is ∙ c.first_child.ensures) in
    end_gone is (c.free_end-freed.ensures.freed is.below ends is.can.below) (c.free_end-freed.ensures.count is.below ends is.can.below)

-- ---- the first child is below

pub write_child-requires : goal.write_child-requires
write_child-requires g c = (
  search rules,
  rw c.inner_of.ensures (first_has_place c.down.store c.down.child c.in-Some.byte c.in-Some.first
      (kind_capacity c.down.child.kind) (sym c.in-Some.is ∙ c.first_child.ensures)),
)

pub down-smaller : goal.down-smaller
down-smaller g c =
    let (upper, lower, can) = c.requires in
    let is = c.down.invariant.moved upper lower can in
    fewer_below is.can (child_moves {u = c.write_child.new.self} is.above is.below is.can (sym c.in-Some.is ∙ c.first_child.ensures)
    (c.write_child.ensures.inners ∙ ap (λ p. change c.down.store.inners p (with_child c.in-Some.byte c.down.left)) c.inner_of.ensures)
    c.write_child.ensures.leaves)

pub down-preserved : goal.down-preserved
down-preserved g c =
    let written = c.write_child.ensures.inners ∙ ap (λ p. change c.down.store.inners p (with_child c.in-Some.byte c.down.left)) c.inner_of.ensures in
    let has = has_children c.down.store c.down.child (c.in-Some.byte, c.in-Some.first) (sym c.in-Some.is ∙ c.first_child.ensures) in
    record {
      moved = λ upper lower can.
          let is = c.down.invariant.moved upper lower can in
          moved_on is (child_moves is.above is.below is.can (sym c.in-Some.is ∙ c.first_child.ensures) written c.write_child.ensures.leaves);
      promise = c.write_child.ensures.promise ∙ c.down.invariant.promise;
      improper = λ name leaf.
          ap (λ m. map.get m name) written
          ∙ inner_changed_elsewhere c.down.store.inners (as_inner c.down.child) name (with_child c.in-Some.byte c.down.left)
          (λ e. has.off (sym (ap (λ z. z.kind) e) ∙ leaf))
          ∙ c.down.invariant.improper name leaf;
      leaves = c.write_child.ensures.leaves ∙ c.down.invariant.leaves;
    }
