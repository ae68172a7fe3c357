use Rattle.std.proofs.Common.{length, get_or, set, get_or-set_same, get_or-set_other, is_some, refl, sym, ap, ◌∙◌, arith}
use Rattle.art_inner.specs.Inner.{child_at, remove_child}
use Rattle.art_inner.specs.Tables.{names_by_byte}
use Rattle.art_inner.specs.Indexed.{indexed_at}
use Rattle.art_inner.proofs.ChildrenLaws.{length-remove_child, remove_child-absent}
use Rattle.art_inner.proofs.Extent.{listed_at, listed_rising}
use Rattle.art_inner.proofs.IndexedLemmas.{indexed_removed, IsIndex-removed, nonzero}
use Rattle.art_inner.proofs.indexed.IndexedChildTable.remove.Goals as goal

pub returns-in_err-child-clause-rest : goal.returns-in_err-child-clause-rest
returns-in_err-child-clause-rest c = sym (remove_child-absent c.args.self.now c.args.byte (sym c.get.ensures ∙ c.in_err-child.was))

pub overflow_sub-place : goal.overflow_sub-place
overflow_sub-place c =
    nonzero c.self.inside.slots c.self.inside.kinds _ _
    (sym (listed_at (indexed_at c.self.inside.slots c.self.inside.kinds c.self.inside.index) c.args.byte c.ranges.byte.fits)
    ∙ ap (λ cs. child_at cs c.args.byte) c.self.view_is ∙ sym c.get.ensures ∙ c.in_ok-child.was)

pub overflow_sub-self-3 : goal.overflow_sub-self-3
overflow_sub-self-3 c =
    nonzero c.self.inside.slots c.self.inside.kinds _ _
    (sym (listed_at (indexed_at c.self.inside.slots c.self.inside.kinds c.self.inside.index) c.args.byte c.ranges.byte.fits)
    ∙ ap (λ cs. child_at cs c.args.byte) c.self.view_is ∙ sym c.get.ensures ∙ c.in_ok-child.was)

pub returns-clause-rest : goal.returns-clause-rest
returns-clause-rest c =
    let at_least = nonzero c.self.inside.slots c.self.inside.kinds _ _
    (sym (listed_at (indexed_at c.self.inside.slots c.self.inside.kinds c.self.inside.index) c.args.byte c.ranges.byte.fits)
    ∙ ap (λ cs. child_at cs c.args.byte) c.self.view_is
    ∙ sym c.get.ensures ∙ c.in_ok-child.was) in
    indexed_removed c.self.inside.slots c.self.inside.kinds c.self.inside.index (set c.renumber.new.index c.args.byte 0) c.self.inside.len c.args.byte
    (get_or c.self.inside.index c.args.byte 0) c.ranges.byte.fits c.self.invariant.2 refl (λ z. omega (arith, z, at_least))
    (omega (arith, c.self.invariant.1, c.self.told))
    (omega (arith, c.self.invariant.1, c.self.told))
    (get_or-set_same c.renumber.new.index c.args.byte 0 0 (omega (arith, c.ranges.byte.fits, c.self.told, c.renumber.auto.index)))
    (λ k d. get_or-set_other c.renumber.new.index c.args.byte k 0 0 d ∙ c.renumber.ensures k)
    ∙ ap (λ cs. remove_child cs c.args.byte) c.self.view_is

pub invariant_of-self : goal.invariant_of-self
invariant_of-self c =
    let at_least = nonzero c.self.inside.slots c.self.inside.kinds _ _
    (sym (listed_at (indexed_at c.self.inside.slots c.self.inside.kinds c.self.inside.index) c.args.byte c.ranges.byte.fits)
    ∙ ap (λ cs. child_at cs c.args.byte) c.self.view_is
    ∙ sym c.get.ensures ∙ c.in_ok-child.was) in
    let removed = ap length (indexed_removed c.self.inside.slots c.self.inside.kinds c.self.inside.index
    (set c.renumber.new.index c.args.byte 0) c.self.inside.len c.args.byte
    (get_or c.self.inside.index c.args.byte 0) c.ranges.byte.fits c.self.invariant.2 refl (λ z. omega (arith, z, at_least))
    (omega (arith, c.self.invariant.1, c.self.told))
    (omega (arith, c.self.invariant.1, c.self.told))
    (get_or-set_same c.renumber.new.index c.args.byte 0 0 (omega (arith, c.ranges.byte.fits, c.self.told, c.renumber.auto.index)))
    (λ k d. get_or-set_other c.renumber.new.index c.args.byte k 0 0 d ∙ c.renumber.ensures k)) in
    let there = ap (λ cs. is_some (child_at cs c.args.byte)) c.self.view_is ∙ ap is_some (sym c.get.ensures ∙ c.in_ok-child.was) in
    let shorter = length-remove_child (names_by_byte (indexed_at c.self.inside.slots c.self.inside.kinds c.self.inside.index)) c.args.byte
    (listed_rising (indexed_at c.self.inside.slots c.self.inside.kinds c.self.inside.index)) there in (
      omega (arith, c.self.invariant.0, removed, shorter),
      omega (arith, c.self.invariant.1),
      IsIndex-removed c.self.inside.slots c.self.inside.kinds c.self.inside.index (set c.renumber.new.index c.args.byte 0) c.self.inside.len c.args.byte
          (get_or c.self.inside.index c.args.byte 0) c.ranges.byte.fits c.self.invariant.2 refl (λ z. omega (arith, z, at_least))
          (omega (arith, c.self.invariant.1, c.self.told))
          (omega (arith, c.self.invariant.1, c.self.told))
          (get_or-set_same c.renumber.new.index c.args.byte 0 0 (omega (arith, c.ranges.byte.fits, c.self.told, c.renumber.auto.index)))
          (λ k d. get_or-set_other c.renumber.new.index c.args.byte k 0 0 d ∙ c.renumber.ensures k),
    )
