use Rattle.std.proofs.Common.{ap, sym, ◌∙◌}
use Rattle.art_model.specs.Prelude.{has_key, of_key}
use Rattle.art_changing.specs.MapPairs.{pairs_at}
use Rattle.art_map.proofs.Near.{leaf_tells}
use Rattle.art_map.proofs.map.ByteMap.leaf_near.Goals as goal

pub returns : goal.returns
returns g c =
    let bytes = g.K.AsBytes.bytes in
    let key = g.Q.KeyBytes.key c.args.query in
    leaf_tells bytes g.row.P c.self.inside.store _ key c.leaf_near.result c.leaf_near.ensures
    ∙ ap (has_key (of_key bytes) key) (ap (pairs_at c.self.inside.store) (sym c.in_ok-self.was) ∙ c.self.view_is)
