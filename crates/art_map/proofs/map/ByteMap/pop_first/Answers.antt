use Rattle.std.proofs.Common.{refl}
use Rattle.art_model.specs.Prelude.{first_of, of_key, without_first}
use Rattle.art_map.proofs.Results.{taken_holds, tells_taken}
use Rattle.art_changing.proofs.ViewsOfPairs.{view_sorted}
use Rattle.art_map.proofs.map.ByteMap.pop_first.Goals as goal

pub invariant_of-self : goal.invariant_of-self
invariant_of-self g c = taken_holds g.K.AsBytes.bytes g.row.P _ _ _ _ first_of without_first c.take_first.result c.take_first.ensures

pub returns : goal.returns
returns g c =
    let (left, removed) = tells_taken g.K.AsBytes.bytes g.row.P _ _ _ _ first_of without_first c.take_first.result c.take_first.ensures c.self.view_is in
    record {
      succeeds = refl;
      pairs = left;
      removed = removed;
      was_sorted = view_sorted (of_key g.K.AsBytes.bytes) g.row.P c.self.inside.store c.self.invariant c.self.view_is;
    }
