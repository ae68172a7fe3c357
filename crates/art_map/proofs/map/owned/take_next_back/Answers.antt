use Rattle.art_reading.proofs.PairsLeft.{last_ended}
use Rattle.art_map.proofs.Owned.{last_out, last_out_walk}
use Rattle.art_map.proofs.map.owned.take_next_back.Goals as goal

pub returns-in_err-name-clause-pair : goal.returns-in_err-name-clause-pair
returns-in_err-name-clause-pair g c = rw c.from_residual.ensures (last_ended c.requires c.in_err-name.ensures.rest c.in_err-name.ensures.leaf)

pub returns-clause-walk : goal.returns-clause-walk
returns-clause-walk g c =
    last_out_walk _ _ _ c.free_leaf-leaf.ensures.leaves c.free_leaf-leaf.ensures.inners c.requires c.free_leaf-leaf.ensures.node
    c.in_ok-name.ensures.rest c.in_ok-name.ensures.leaf

pub returns-clause-pair : goal.returns-clause-pair
returns-clause-pair g c =
    last_out _ _ _ c.free_leaf-leaf.ensures.leaves c.free_leaf-leaf.ensures.inners c.requires c.free_leaf-leaf.ensures.node
    c.in_ok-name.ensures.rest c.in_ok-name.ensures.leaf
