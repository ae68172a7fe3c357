use Rattle.std.proofs.Common.{◌≡◌, sym, subst, true, rules}
use Rattle.art_model.specs.Prelude.{has_key, of_key}
use Rattle.art_model.proofs.stores.StoreLaws.{has_children}
use Rattle.art_map.proofs.Near.{key_stored}
use Rattle.art_changing.proofs.MapPuts.{at_some}
use Rattle.art_map.proofs.map.ByteMap.named_after.Goals as goal

pub minimum_unchecked-name-requires : goal.minimum_unchecked-name-requires
minimum_unchecked-name-requires g c =
    let has = at_some c.in_ok-self-in-None.was c.self.invariant in
    (search rules, (has.layout, has_children _ _ _ _ _ has.layout has.by))

pub returns : goal.returns
returns g c =
    let bytes = g.K.AsBytes.bytes in
    let key = bytes c.in_ok-leaf.leaf.now.key in
    subst (λ pairs. has_key (of_key bytes) key pairs ≡ true) c.self.view_is
    (key_stored bytes g.row.P c.match-near.name (sym c.in_ok-leaf.ensures) c.self.invariant)
