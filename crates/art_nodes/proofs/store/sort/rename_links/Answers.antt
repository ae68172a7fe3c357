use Rattle.std.proofs.Common.{◌+◌, sym, subst, ap, ◌∙◌}
use Rattle.std.specs.Option.{option_copied_mut}
use Rattle.art_inner.specs.NewNames.{new_name}
use Rattle.art_nodes.specs.Renamed.{leaf_renamed}
use Rattle.art_nodes.proofs.SortLemmas.{AreChangedBelow, next_changed, next_vacant}
use Rattle.art_nodes.proofs.store.sort.rename_links.Goals.{in-Some, in_default}
use Rattle.art_nodes.proofs.store.sort.rename_links.Goals as goal

pub loop-slot-preserved : goal.loop-slot-preserved
loop-slot-preserved g c =
    let f = leaf_renamed (new_name c.args.table.now) in
    elim c.match-get_mut.branch [
      | in-Some w ↦
          let there = sym c.get_mut.ensures.value ∙ ap option_copied_mut w.in-Some.is in
          subst (λ s. AreChangedBelow f c.args.leaves.now s (c.loop-slot.slot + 1)) (sym w.leaves-is)
          (next_changed f c.args.leaves.now c.loop-slot.leaves c.loop-slot.slot c.loop-slot.invariant w.in-Some.leaf.now
          w.rename_beside.new.leaf there w.rename_beside.ensures)
      | in_default w ↦
          let none = sym c.get_mut.ensures.value ∙ ap option_copied_mut w.in_default.is in
          subst (λ s. AreChangedBelow f c.args.leaves.now s (c.loop-slot.slot + 1)) (sym w.leaves-is)
          (next_vacant f c.args.leaves.now c.loop-slot.leaves c.loop-slot.slot c.loop-slot.invariant none)
    ]
