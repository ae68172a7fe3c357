use Rattle.std.proofs.Common.{refl}
use Rattle.art_nodes.proofs.StoreLemmas.{same_slots}
use Rattle.art_nodes.proofs.store.InnerSlabs.shrink_to_fit.Goals as goal

pub returns-in_err-narrow-clause-nodes : goal.returns-in_err-narrow-clause-nodes
returns-in_err-narrow-clause-nodes g c = same_slots c.args.self.now _ c.narrow.ensures.slots refl refl refl

pub returns-in_err-narrow-2-clause-nodes : goal.returns-in_err-narrow-2-clause-nodes
returns-in_err-narrow-2-clause-nodes g c = same_slots c.args.self.now _ c.narrow.ensures.slots c.narrow-2.ensures.slots refl refl

pub returns-in_err-narrow-3-clause-nodes : goal.returns-in_err-narrow-3-clause-nodes
returns-in_err-narrow-3-clause-nodes g c = same_slots c.args.self.now _ c.narrow.ensures.slots c.narrow-2.ensures.slots c.narrow-3.ensures.slots refl

pub returns-clause-nodes : goal.returns-clause-nodes
returns-clause-nodes g c =
    same_slots c.args.self.now _ c.narrow.ensures.slots c.narrow-2.ensures.slots c.narrow-3.ensures.slots c.narrow-4.ensures.slots
