use Rattle.std.proofs.Common.{◌≡◌, ◌++◌, ◌∷◌, subst}
use Rattle.art_map.specs.MapParts.{keys_before, keys_from}
use Rattle.art_keyed.proofs.Parted.{before_keeps, from_keeps, stayed_keep}
use Rattle.art_keyed_sets.proofs.set.TreeSet.split_off.Goals as goal
use Rattle.art_keyed_sets.proofs.set.TreeSet.split_off.Goals.{in-Ok, in-Err}

pub invariant_of-result : goal.invariant_of-result
invariant_of-result g c = rw c.in-Ok.ensures.moved (from_keeps _ g.K.AsBytes.bytes _ c.self.inside.set c.self.invariant)

pub invariant_of-self : goal.invariant_of-self
invariant_of-self g c =
    elim c.match-split_off.branch [
      | in-Ok w ↦ rw w.in-Ok.ensures.stay (before_keeps _ g.K.AsBytes.bytes _ c.self.inside.set c.self.invariant)
      | in-Err w ↦
          let refused = w.in-Err.refused in
          stayed_keep _ g.K.AsBytes.bytes _ c.self.inside.set c.split_off.new.self refused.moved refused.key w.in-Err.ensures.refused
          c.self.invariant w.in-Err.ensures.kept
    ]

pub returns-clause-stay : goal.returns-clause-stay
returns-clause-stay g c =
    let B = g.K.AsBytes.bytes in
    elim c.match-split_off.branch [
      | in-Ok w ↦ rw w.result-is (subst (λ k. c.split_off.new.self ≡ keys_before B k c.args.self.now) c.as_bytes.ensures
          (subst (λ keys. c.split_off.new.self ≡ keys_before B c.as_bytes.result.now keys) c.self.view_is w.in-Ok.ensures.stay))
      | in-Err w ↦ rw w.result-is tt
    ]

pub returns-clause-moved : goal.returns-clause-moved
returns-clause-moved g c =
    let B = g.K.AsBytes.bytes in
    elim c.match-split_off.branch [
      | in-Ok w ↦ rw w.result-is (subst (λ k. w.in-Ok.set ≡ keys_from B k c.args.self.now) c.as_bytes.ensures
          (subst (λ keys. w.in-Ok.set ≡ keys_from B c.as_bytes.result.now keys) c.self.view_is w.in-Ok.ensures.moved))
      | in-Err w ↦ rw w.result-is tt
    ]

pub returns-clause-refused : goal.returns-clause-refused
returns-clause-refused g c =
    let B = g.K.AsBytes.bytes in
    elim c.match-split_off.branch [
      | in-Ok w ↦ rw w.result-is tt
      | in-Err w ↦
          let r = w.in-Err.refused in
          rw w.result-is
          (subst (λ k. keys_from B k c.args.self.now ≡ r.moved ++ r.key ∷ keys_from B k c.split_off.new.self) c.as_bytes.ensures
          (subst (λ keys. keys_from B c.as_bytes.result.now keys ≡ r.moved ++ r.key ∷ keys_from B c.as_bytes.result.now c.split_off.new.self) c.self.view_is
          w.in-Err.ensures.refused))
    ]

pub returns-clause-kept : goal.returns-clause-kept
returns-clause-kept g c =
    let B = g.K.AsBytes.bytes in
    elim c.match-split_off.branch [
      | in-Ok w ↦ rw w.result-is tt
      | in-Err w ↦
          rw w.result-is
          (subst (λ k. keys_before B k c.split_off.new.self ≡ keys_before B k c.args.self.now) c.as_bytes.ensures
          (subst (λ keys. keys_before B c.as_bytes.result.now c.split_off.new.self ≡ keys_before B c.as_bytes.result.now keys)
          c.self.view_is w.in-Err.ensures.kept))
    ]
