use Rattle.std.proofs.Common.{sym, ap, length, ◌∙◌}
use Rattle.art_inner.specs.InnerRenamed.{children_renamed}
use Rattle.art_inner.specs.NewNames.{new_name}
use Rattle.art_inner.proofs.RenamingLemmas.{indexed-renamed, length-renamed}
use Rattle.art_inner.proofs.indexed.IndexedChildTable.rename_leaves.Goals as goal

pub invariant_of-self : goal.invariant_of-self
invariant_of-self c =
    let t = c.self.inside in
    let shown = indexed-renamed c.args.table.now t.index t.kinds t.slots c.rename_slots.new.slots c.rename_slots.ensures.slots in
    (c.self.invariant.0 ∙ sym (ap length shown ∙ length-renamed (new_name c.args.table.now) _), c.self.invariant.1, c.self.invariant.2)

pub returns : goal.returns
returns c =
    let t = c.self.inside in
    indexed-renamed c.args.table.now t.index t.kinds t.slots c.rename_slots.new.slots c.rename_slots.ensures.slots
    ∙ ap (children_renamed (new_name c.args.table.now)) c.self.view_is
