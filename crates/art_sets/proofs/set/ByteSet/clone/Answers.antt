use Rattle.std.proofs.Common.{subst}
use Rattle.std.specs.List.{AllZip}
use Rattle.art_iterating.specs.MapItems.{keys_of}
use Rattle.art_sets.proofs.ClonedKeys.{cloned_keys}
use Rattle.art_sets.proofs.set.ByteSet.clone.Goals as goal

pub returns : goal.returns
returns g c =
    subst (λ keys. AllZip g.K.Clone.is_clone keys (keys_of c.in_ok-map.map)) c.self.view_is
    (cloned_keys g.K.Clone.is_clone _ c.self.inside.map c.in_ok-map.map c.in_ok-map.ensures)
