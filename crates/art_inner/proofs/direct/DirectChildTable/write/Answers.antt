use Rattle.std.proofs.Common.{sym, ap, ◌∙◌, length, is_some, arith}
use Rattle.art_inner.specs.Inner.{child_at, put_child}
use Rattle.art_inner.specs.Tables.{names_by_byte}
use Rattle.art_inner.specs.Direct.{direct_at}
use Rattle.art_inner.proofs.ChildrenLaws.{length-put_child_new, length-put_child_old}
use Rattle.art_inner.proofs.Extent.{listed_rising}
use Rattle.art_inner.proofs.DirectLemmas.{direct_put}
use Rattle.art_inner.proofs.direct.DirectChildTable.write.Goals.{in-Some, in-None}
use Rattle.art_inner.proofs.direct.DirectChildTable.write.Goals as goal

pub returns : goal.returns
returns c =
    direct_put c.self.inside.slots c.self.inside.places c.args.byte c.ranges.byte.fits (omega (arith, c.self.told))
    (omega (arith, c.self.told)) c.place_of.result c.args.child c.place_of.ensures
    ∙ ap (λ cs. put_child cs c.args.byte c.args.child) c.self.view_is

pub invariant_of-self : goal.invariant_of-self
invariant_of-self c =
    let at = direct_at c.self.inside.slots c.self.inside.places in
    let made = ap length (direct_put c.self.inside.slots c.self.inside.places c.args.byte c.ranges.byte.fits (omega (arith, c.self.told))
    (omega (arith, c.self.told)) c.place_of.result c.args.child c.place_of.ensures) in
    let there = ap (λ cs. child_at cs c.args.byte) c.self.view_is ∙ sym c.get.ensures in
    elim c.match-get.branch [
      | in-Some w ↦ omega (
        arith,
        c.self.invariant,
        w.len-is,
        made,
        length-put_child_old (names_by_byte at) c.args.byte c.args.child (listed_rising at) (ap is_some (there ∙ w.in-Some.is)),
      )
      | in-None w ↦ omega (arith, c.self.invariant, w.len-is, made, length-put_child_new (names_by_byte at) c.args.byte c.args.child (there ∙ w.in-None.is))
    ]
