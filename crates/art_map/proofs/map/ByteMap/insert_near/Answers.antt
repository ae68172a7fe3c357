use Rattle.art_model.specs.Prelude.{of_key}
use Rattle.art_map.proofs.Results.{put_holds, tells_put}
use Rattle.art_changing.proofs.ViewsOfPairs.{view_sorted}
use Rattle.art_map.proofs.map.ByteMap.insert_near.Goals as goal

pub invariant_of-self : goal.invariant_of-self
invariant_of-self g c = put_holds g.K.AsBytes.bytes g.row.P _ c.put_near.new.store c.put_near.new.root c.put_near.new.len _ _ c.put_near.result c.put_near.ensures

pub returns : goal.returns
returns g c =
    let told =
    tells_put g.K.AsBytes.bytes g.row.P _ c.put_near.new.store c.put_near.new.root c.put_near.new.len _ _ c.self.view_is c.put_near.result
    c.put_near.ensures in
    record {
      pairs = told.pairs;
      replaced = told.replaced;
      found = told.found;
      others = told.others;
      accepted = told.accepted;
      was_sorted = view_sorted (of_key g.K.AsBytes.bytes) g.row.P c.self.inside.store c.self.invariant c.self.view_is;
      sorted = told.sorted;
      refused = told.refused;
      kept = told.kept;
    }
