use Rattle.std.proofs.Common.{◌≡◌, Some, rules, ap, sym, ◌∙◌, subst, List, [], ◌∷◌, ◌++◌, take}
use Rattle.art_loading.specs.declared.edge.Step.{Step}
use Rattle.art_loading.specs.Edges.{IsEdge}
use Rattle.art_loading.specs.NextKeys.{IsReason}
use Rattle.art_loading.specs.declared.append.AppendError.{AppendError}
use Rattle.art_model.specs.Prelude.{ChangesInPlace, KeepsApart, of_key}
use Rattle.art_loading.proofs.Edges.{at_deref, edge_after, edge_at, edge_last, edge_same, last_point, leaf_met, memory_after, next_here, not_kept}
use Rattle.art_loading.proofs.Next.{next_precedes}
use Rattle.art_loading.proofs.append.append.Goals as goal

pub leaf_at-last-requires : goal.leaf_at-last-requires
leaf_at-last-requires g c = let (pairs, e) = c.requires in (search rules, leaf_met e)

pub apply_last-requires : goal.apply_last-requires
apply_last-requires g c =
    let (pairs, old) = c.requires in
    let e = subst (λ (items : List Step). IsEdge (of_key g.K.AsBytes.bytes) g.row.P c.args.store.now c.args.edge.now.root items c.args.edge.now.leaf pairs)
    (sym c.deref.ensures.value) old in
    let (y, read) = c.in-Ok.ensures.part in
    let next = next_here e c.leaf_at-last.ensures c.as_bytes.ensures c.as_bytes-2.ensures read in
    (search rules, last_point e (c.point_after-above.ensures pairs e (g.K.AsBytes.bytes c.args.key) y next))

pub unreachable-requires : goal.unreachable-requires
unreachable-requires g c =
    let (pairs, old) = c.requires in
    let e = subst (λ (items : List Step). IsEdge (of_key g.K.AsBytes.bytes) g.row.P c.args.store.now c.args.edge.now.root items c.args.edge.now.leaf pairs)
    (sym c.deref.ensures.value) old in
    let (y, read) = c.in-Ok.ensures.part in
    let next = next_here e c.leaf_at-last.ensures c.as_bytes.ensures c.as_bytes-2.ensures read in
    let p = c.point_after-above.ensures pairs e (g.K.AsBytes.bytes c.args.key) y next in
    let (tree, by) = c.in-Ok-apply_last.ensures.applied.canonical pairs e.layout (edge_at e p) in
    not_kept p.is_new (c.in-Ok-apply_last.ensures.applied.leaf _ tree by) c.in_default.is

pub returns-in-Ok-push-clause-appended : goal.returns-in-Ok-push-clause-appended
returns-in-Ok-push-clause-appended g c pairs old =
    let e = subst (λ (items : List Step). IsEdge (of_key g.K.AsBytes.bytes) g.row.P c.args.store.now c.args.edge.now.root items c.args.edge.now.leaf pairs)
    (sym c.deref.ensures.value) old in
    let (y, read) = c.in-Ok.ensures.part in
    let next = next_here e c.leaf_at-last.ensures c.as_bytes.ensures c.as_bytes-2.ensures read in
    let p = c.point_after-above.ensures pairs e (g.K.AsBytes.bytes c.args.key) y next in
    let canonical = c.in-Ok-apply_last.ensures.applied.canonical pairs e.layout (edge_at e p) in
    edge_after e (next_precedes next) p canonical
    (rw c.in-NewParent.is at (c.in-Ok-apply_last.ensures.applied.below pairs e.layout (edge_at e p) p.at _ canonical.0 canonical.1))
    (c.in-Ok-push.ensures.items
    ∙ ap (λ (l : List Step). l ++ record { node = c.in-NewParent.new_parent_node; depth = c.point_after-above.result.2; byte = c.in-NewParent.leaf_node_key_byte } ∷ [])
    (c.truncate.ensures.items ∙ ap (take c.point_after-above.result.1) (c.reserve.ensures.items ∙ sym c.deref.ensures.value)))

pub returns-in-Err-clause-reason : goal.returns-in-Err-clause-reason
returns-in-Err-clause-reason g c pairs e last is =
    let own = edge_last e in
    let same : e.pair ≡ last = cc in
    subst (λ l. IsReason l (g.K.AsBytes.bytes c.args.key) c.in-Err.reason)
    (c.as_bytes.ensures ∙ ap (of_key g.K.AsBytes.bytes) (edge_same e c.leaf_at-last.ensures ∙ same))
    (subst (λ k. IsReason c.as_bytes.result.now k c.in-Err.reason) c.as_bytes-2.ensures c.in-Err.ensures.reason)

pub returns-then-is_err-clause-reason : goal.returns-then-is_err-clause-reason
returns-then-is_err-clause-reason g c pairs e last is =
    let (y, read) = c.in-Ok.ensures.part in
    memory_after e (next_here e c.leaf_at-last.ensures c.as_bytes.ensures c.as_bytes-2.ensures read) is
    (ap (λ (error : AppendError g.row.K.Denot g.row.V.Denot). error.reason) c.without_memory.ensures)

pub returns-in-Err-apply_last-clause-reason : goal.returns-in-Err-apply_last-clause-reason
returns-in-Err-apply_last-clause-reason g c pairs e last is =
    let (y, read) = c.in-Ok.ensures.part in
    memory_after e (next_here e c.leaf_at-last.ensures c.as_bytes.ensures c.as_bytes-2.ensures read) is
    (ap (λ (error : AppendError g.row.K.Denot g.row.V.Denot). error.reason) c.without_memory-in-Err-apply_last.ensures)

pub returns-in-Ok-push-clause-kept : goal.returns-in-Ok-push-clause-kept
returns-in-Ok-push-clause-kept g c pairs old after new by =
    let e = at_deref old c.deref.ensures.value in
    let (y, read) = c.in-Ok.ensures.part in
    let next = next_here e.0 c.leaf_at-last.ensures c.as_bytes.ensures c.as_bytes-2.ensures read in
    let p = c.point_after-above.ensures pairs e.0 (g.K.AsBytes.bytes c.args.key) y next in
    subst (λ l. ChangesInPlace (of_key g.K.AsBytes.bytes) c.args.store.now c.apply_last.new.store (Some l) (Some new)) e.1
    (c.in-Ok-apply_last.ensures.applied.kept pairs e.0.layout (edge_at e.0 p) after new by)

pub returns-in-Ok-push-clause-apart : goal.returns-in-Ok-push-clause-apart
returns-in-Ok-push-clause-apart g c =
    let (pairs, old) = c.requires in
    let e = at_deref old c.deref.ensures.value in
    let (y, read) = c.in-Ok.ensures.part in
    let next = next_here e.0 c.leaf_at-last.ensures c.as_bytes.ensures c.as_bytes-2.ensures read in
    let p = c.point_after-above.ensures pairs e.0 (g.K.AsBytes.bytes c.args.key) y next in
    subst (λ root. KeepsApart (of_key g.K.AsBytes.bytes) g.row.P c.args.store.now c.apply_last.new.store (Some root) (Some c.in-Ok-apply_last.done.new_root))
    (p.at.root_is ∙ e.0.by.stands.0.named) c.in-Ok-apply_last.ensures.applied.apart
