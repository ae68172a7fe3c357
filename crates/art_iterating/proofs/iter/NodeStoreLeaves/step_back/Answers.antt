use Rattle.std.proofs.Common.{ap, option_map}
use Rattle.art_model.specs.Prelude.{pair_of}
use Rattle.art_iterating.proofs.Ranges.{last_left_over, last_taken, no_last}
use Rattle.art_iterating.proofs.iter.NodeStoreLeaves.step_back.Goals as goal

pub returns-in_err-leaf-clause-pair : goal.returns-in_err-leaf-clause-pair
returns-in_err-leaf-clause-pair g c = rw c.from_residual.ensures (no_last c.requires c.in_err-leaf.ensures.rest c.in_err-leaf.ensures.name)

pub returns-clause-pair : goal.returns-clause-pair
returns-clause-pair g c = last_taken c.requires c.in_ok-leaf.ensures.rest c.in_ok-leaf.ensures.name (ap (option_map pair_of) c.in_ok-leaf.ensures.leaf)

pub returns-clause-range : goal.returns-clause-range
returns-clause-range g c = last_left_over c.requires c.in_ok-leaf.ensures.rest c.in_ok-leaf.ensures.name
