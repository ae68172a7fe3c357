use Rattle.std.proofs.Common.{subst, sym, List, ◌∷◌, [], None, Some}
use Rattle.art_loading.specs.Edges.{IsEdge}
use Rattle.art_loading.specs.declared.edge.Step.{Step}
use Rattle.art_loading.proofs.Edges.{edge_begun}
use Rattle.art_model.specs.Prelude.{KeepsApart, of_key, leaf_name}
use Rattle.art_loading.proofs.append.begin.Goals as goal

pub returns-clause-begun : goal.returns-clause-begun
returns-clause-begun g c =
    subst (λ root. IsEdge (of_key g.K.AsBytes.bytes) g.row.P c.plant.new.store root c.new.result.items c.in_ok-leaf.leaf
    ((c.args.key, c.args.value) ∷ [])) (sym c.to_opaque.ensures)
    (subst (λ (items : List Step). IsEdge (of_key g.K.AsBytes.bytes) g.row.P c.plant.new.store (leaf_name c.in_ok-leaf.leaf) items c.in_ok-leaf.leaf
    ((c.args.key, c.args.value) ∷ [])) (sym c.new.ensures.items) (edge_begun c.in_ok-leaf.ensures.canonical))

pub returns-clause-apart : goal.returns-clause-apart
returns-clause-apart g c =
    subst (λ root. KeepsApart (of_key g.K.AsBytes.bytes) g.row.P c.args.store.now c.plant.new.store None (Some root)) (sym c.to_opaque.ensures)
    c.in_ok-leaf.ensures.apart
