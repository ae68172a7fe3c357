use Rattle.std.proofs.Common.{◌≡◌, ◌++◌, ◌∷◌, subst}
use Rattle.art_iterating.specs.MapItems.{keys_of}
use Rattle.art_map.specs.MapParts.{keys_from}
use Rattle.art_sets.proofs.SetParts.{keys_parted}
use Rattle.art_sets.proofs.set.ByteSet.split_off.Goals as goal
use Rattle.art_sets.proofs.set.ByteSet.split_off.Goals.{in-Ok, in-Err}

pub returns-clause-refused : goal.returns-clause-refused
returns-clause-refused g c =
    let B = g.K.AsBytes.bytes in
    elim c.match-split_off.branch [
      | in-Ok w ↦ rw w.result-is tt
      | in-Err w ↦
          let refused = w.in-Err.refused in
          rw w.result-is
          (subst (λ ks. keys_from B c.args.key_bytes.now ks
          ≡ keys_of refused.moved ++ refused.key ∷ keys_from B c.args.key_bytes.now (keys_of c.split_off.new.self)) c.self.view_is
          (keys_parted B c.args.key_bytes.now c.self.inside.map c.split_off.new.self refused.moved (refused.key, refused.value) w.in-Err.ensures.refused))
    ]
