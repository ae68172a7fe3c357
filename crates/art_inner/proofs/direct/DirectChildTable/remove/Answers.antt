use Rattle.std.proofs.Common.{sym, ap, ◌∙◌, length, is_some, arith}
use Rattle.art_inner.specs.Inner.{child_at, remove_child}
use Rattle.art_inner.specs.Tables.{names_by_byte}
use Rattle.art_inner.specs.Direct.{direct_at}
use Rattle.art_inner.proofs.ChildrenLaws.{length-remove_child, remove_child-absent}
use Rattle.art_inner.proofs.Extent.{listed_rising}
use Rattle.art_inner.proofs.DirectLemmas.{direct_removed}
use Rattle.art_inner.proofs.direct.DirectChildTable.remove.Goals as goal

pub returns-in_err-child-clause-rest : goal.returns-in_err-child-clause-rest
returns-in_err-child-clause-rest c = sym (remove_child-absent c.args.self.now c.args.byte (sym c.get.ensures ∙ c.in_err-child.was))

pub invariant_of-self : goal.invariant_of-self
invariant_of-self c =
    let at = direct_at c.self.inside.slots c.self.inside.places in
    let there = ap (λ cs. is_some (child_at cs c.args.byte)) c.self.view_is ∙ ap is_some (sym c.get.ensures ∙ c.in_ok-child.was) in
    let shorter = length-remove_child (names_by_byte at) c.args.byte (listed_rising at) there in
    let removed = ap length (direct_removed c.self.inside.slots c.self.inside.places c.args.byte c.ranges.byte.fits
    (omega (arith, c.self.told)) (omega (arith, c.self.told))) in
    omega (arith, c.self.invariant, shorter, removed)

pub returns-clause-rest : goal.returns-clause-rest
returns-clause-rest c =
    direct_removed c.self.inside.slots c.self.inside.places c.args.byte c.ranges.byte.fits (omega (arith, c.self.told)) (omega (arith, c.self.told))
    ∙ ap (λ cs. remove_child cs c.args.byte) c.self.view_is
