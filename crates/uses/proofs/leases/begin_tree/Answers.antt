use Rattle.std.proofs.Common.{[], ◌∷◌, None, Some, subst, sym}
use Rattle.art_parts.specs.declared.names.OpaqueNodePtr.{OpaqueNodePtr}
use Rattle.art_model.specs.Apart.{KeepsApart}
use Rattle.art_model.specs.Canonical.{IsCanonical}
use Rattle.art_model.specs.Pairs.{of_key}
use Rattle.uses.proofs.leases.begin_tree.Goals as goal

pub returns-clause-pairs : goal.returns-clause-pairs
returns-clause-pairs g c =
    let H : OpaqueNodePtr → Type 0 = λ r. IsCanonical (of_key g.K.AsBytes.bytes) g.row.P c.plant.new.store (Some r) ((c.args.key, c.args.value) ∷ []) in
    subst H (sym c.to_opaque.ensures) c.in-Ok.ensures.canonical

pub returns-clause-apart : goal.returns-clause-apart
returns-clause-apart g c =
    let H : OpaqueNodePtr → Type 0 = λ r. KeepsApart (of_key {V = g.row.V.Denot} g.K.AsBytes.bytes) g.row.P c.args.store.now c.plant.new.store None (Some r) in
    subst H (sym c.to_opaque.ensures) c.in-Ok.ensures.apart
