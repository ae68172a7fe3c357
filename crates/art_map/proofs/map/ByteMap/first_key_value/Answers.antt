use Rattle.std.proofs.Common.{rules}
use Rattle.art_model.specs.Prelude.{first_of}
use Rattle.art_model.proofs.stores.StoreLaws.{has_children}
use Rattle.art_changing.proofs.MapPuts.{at_some}
use Rattle.art_map.proofs.NamedPairs.{first_named, named_there, named_pair}
use Rattle.art_map.proofs.map.ByteMap.first_key_value.Goals as goal

pub minimum_unchecked-leaf-requires : goal.minimum_unchecked-leaf-requires
minimum_unchecked-leaf-requires g c =
    let has = at_some c.in_ok-self.was c.self.invariant in
    (search rules, (has.layout, has_children _ _ _ _ _ has.layout has.by))

pub pair_at-requires : goal.pair_at-requires
pair_at-requires g c = (
  search rules,
  named_there g.K.AsBytes.bytes g.row.P c.in_ok-self.was c.self.invariant first_of
      (λ pairs layout by. first_named g.K.AsBytes.bytes g.row.P _ by (c.minimum_unchecked-leaf.ensures layout (has_children _ _ _ _ _ layout by))),
)

pub returns : goal.returns
returns g c =
    named_pair g.K.AsBytes.bytes g.row.P c.in_ok-self.was c.self.invariant first_of
    (λ pairs layout by. first_named g.K.AsBytes.bytes
    g.row.P _ by (c.minimum_unchecked-leaf.ensures layout (has_children _ _ _ _ _ layout by))) c.pair_at.ensures c.self.view_is
