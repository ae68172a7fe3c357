use Rattle.std.proofs.Common.{◌≡◌, ap, ◌∙◌}
use Rattle.std.specs.FinMap.{insert}
use Rattle.art_nodes.specs.StoreView.{leaves_of}
use Rattle.art_nodes.proofs.StoreLemmas.{leaves_placed}
use Rattle.art_nodes.proofs.store.NodeStore.place_leaf.Goals.{then-self-gt0, else-self-gt0+in_default}
use Rattle.art_nodes.proofs.store.NodeStore.place_leaf.Goals as goal

pub returns-clause-placed : goal.returns-clause-placed
returns-clause-placed g c =
    let same : c.if-self-gt0.self-inside.leaves.slots ≡ c.self.inside.leaves.slots = elim c.if-self-gt0.branch [
      | then-self-gt0 w ↦ ap (λ s. s.leaves.slots) w.self-inside-is
      | else-self-gt0+in_default w ↦ ap (λ s. s.leaves.slots) w.self-inside-is ∙ w.make_leaf_room.ensures.wider.slots
    ] in
    leaves_placed c.if-self-gt0.self-inside.leaves c.insert_reserved-slot.new.self c.insert_reserved-slot.result c.args.leaf
    c.insert_reserved-slot.ensures.updates
    ∙ ap (λ m. insert m (record { slot = c.insert_reserved-slot.result }) c.args.leaf) (ap leaves_of same ∙ ap (λ nodes. nodes.leaves) c.self.view_is)
