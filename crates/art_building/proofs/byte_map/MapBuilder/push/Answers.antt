use Rattle.art_building.proofs.Built.{appended_holds, pushed, returned, unchanged}
use Rattle.art_building.specs.Built.{edge_in}
use Rattle.art_building.proofs.byte_map.MapBuilder.push.Goals as goal

pub invariant_of-self : goal.invariant_of-self
invariant_of-self g c = appended_holds g.K.AsBytes.bytes g.row.P c.append_in.new.store (edge_in c.append_in.new.edge) c.append_in.new.len _ c.args.key c.args.value c.append_in.result c.append_in.ensures

pub returns-clause-pushed : goal.returns-clause-pushed
returns-clause-pushed g c = pushed g.K.AsBytes.bytes g.row.P c.append_in.new.store (edge_in c.append_in.new.edge) c.append_in.new.len _ c.args.key c.args.value c.self.view_is c.append_in.result c.append_in.ensures

pub returns-clause-kept : goal.returns-clause-kept
returns-clause-kept g c = unchanged g.K.AsBytes.bytes g.row.P c.append_in.new.store (edge_in c.append_in.new.edge) c.append_in.new.len _ c.args.key c.args.value c.self.view_is c.append_in.result c.append_in.ensures

pub returns-clause-error : goal.returns-clause-error
returns-clause-error g c = returned g.K.AsBytes.bytes g.row.P c.append_in.new.store (edge_in c.append_in.new.edge) c.append_in.new.len _ c.args.key c.args.value c.self.view_is c.append_in.result c.append_in.ensures
