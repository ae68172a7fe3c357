use Rattle.art_building.proofs.tree_map.TreeMapBuilder.build.Goals as goal

pub returns-in-Ok : goal.returns-in-Ok
returns-in-Ok g c = record { all = rw c.finish.ensures c.in-Ok.ensures.all; error = tt }

pub returns-in-Err : goal.returns-in-Err
returns-in-Err g c = record { all = tt; error = (c.extend.new.self, c.in-Err.ensures.error) }
