use Rattle.art_keyed.proofs.Keyed.{clones_keep}
use Rattle.art_keyed.proofs.map.clones.TreeMapClone.clone.Goals as goal

pub invariant_of-result : goal.invariant_of-result
invariant_of-result g c =
    clones_keep g.row.V.Denot _ g.K.AsBytes.bytes g.K.Clone.is_clone g.V.Clone.is_clone g.met.K.CloneBytes.keeps_key c.self.inside.map
    c.in_ok-map.map c.in_ok-map.ensures c.self.invariant
