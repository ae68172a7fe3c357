use Rattle.std.proofs.Common.{ap, ◌∙◌}
use Rattle.std.specs.Hash as fed
use Rattle.art_sets.proofs.SetOrders.{hash_of_keys}
use Rattle.art_sets.proofs.set.compared.ByteSetHash.hash.Goals as goal

pub returns : goal.returns
returns g c = fed.fed_along _ _ _ (hash_of_keys g.K.Hash.hash_input c.self.inside.map ∙ ap (fed.slice g.K.Hash.hash_input) c.self.view_is) c.hash.ensures
