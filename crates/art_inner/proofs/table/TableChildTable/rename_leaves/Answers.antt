use Rattle.std.proofs.Common.{sym, ap, subst, ◌∙◌}
use Rattle.art_inner.specs.Inner.{IsRising}
use Rattle.art_inner.specs.InnerRenamed.{children_renamed}
use Rattle.art_inner.specs.NewNames.{new_name}
use Rattle.art_inner.proofs.RenamingLemmas.{IsRising-renamed, shown-new_slots}
use Rattle.art_inner.proofs.table.TableChildTable.rename_leaves.Goals as goal

pub invariant_of-self : goal.invariant_of-self
invariant_of-self g c =
    let t = c.self.inside in
    let shown =
    shown-new_slots c.args.table.now t.len t.bytes t.kinds t.slots c.rename_slots.new.slots c.rename_slots.ensures.count
    c.rename_slots.ensures.slots in
    (c.self.invariant.0, c.self.invariant.1, subst IsRising (sym shown) (IsRising-renamed (new_name c.args.table.now) _ c.self.invariant.2), c.self.invariant.3)

pub returns : goal.returns
returns g c =
    let t = c.self.inside in
    shown-new_slots c.args.table.now t.len t.bytes t.kinds t.slots c.rename_slots.new.slots c.rename_slots.ensures.count c.rename_slots.ensures.slots
    ∙ ap (children_renamed (new_name c.args.table.now)) c.self.view_is
