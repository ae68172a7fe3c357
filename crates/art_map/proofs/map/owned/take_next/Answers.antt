use Rattle.art_reading.proofs.PairsLeft.{first_ended}
use Rattle.art_map.proofs.Owned.{first_out, first_out_walk}
use Rattle.art_map.proofs.map.owned.take_next.Goals as goal

pub returns-in_err-name-clause-pair : goal.returns-in_err-name-clause-pair
returns-in_err-name-clause-pair g c = rw c.from_residual.ensures (first_ended c.requires c.in_err-name.ensures.rest c.in_err-name.ensures.leaf)

pub returns-clause-walk : goal.returns-clause-walk
returns-clause-walk g c =
    first_out_walk _ _ _ c.free_leaf-leaf.ensures.leaves c.free_leaf-leaf.ensures.inners c.requires c.free_leaf-leaf.ensures.node
    c.in_ok-name.ensures.rest c.in_ok-name.ensures.leaf

pub returns-clause-pair : goal.returns-clause-pair
returns-clause-pair g c =
    first_out _ _ _ c.free_leaf-leaf.ensures.leaves c.free_leaf-leaf.ensures.inners c.requires c.free_leaf-leaf.ensures.node
    c.in_ok-name.ensures.rest c.in_ok-name.ensures.leaf
