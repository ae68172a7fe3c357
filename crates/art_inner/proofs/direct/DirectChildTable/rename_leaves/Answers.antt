use Rattle.std.proofs.Common.{sym, ap, length, ◌∙◌}
use Rattle.art_inner.specs.Direct.{direct_at}
use Rattle.art_inner.specs.InnerRenamed.{children_renamed}
use Rattle.art_inner.specs.NewNames.{new_name}
use Rattle.art_inner.proofs.RenamingLemmas.{listed-renamed, length-renamed}
use Rattle.art_inner.proofs.direct.DirectChildTable.rename_leaves.Goals as goal

pub invariant_of-self : goal.invariant_of-self
invariant_of-self c =
    let t = c.self.inside in
    let shown =
    listed-renamed (new_name c.args.table.now) (direct_at t.slots t.places)
    (direct_at c.rename_places.new.slots t.places) c.rename_places.ensures.names in
    c.self.invariant ∙ sym (ap length shown ∙ length-renamed (new_name c.args.table.now) _)

pub returns : goal.returns
returns c =
    let t = c.self.inside in
    listed-renamed (new_name c.args.table.now) (direct_at t.slots t.places) (direct_at c.rename_places.new.slots t.places) c.rename_places.ensures.names
    ∙ ap (children_renamed (new_name c.args.table.now)) c.self.view_is
