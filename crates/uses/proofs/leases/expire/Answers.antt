use Rattle.std.proofs.Common.{ap, refl, sym, subst, arith, ◌∙◌}
use Rattle.art_model.specs.Apart.{HasBoth}
use Rattle.art_model.specs.Pairs.{of_key, remove_key, without_first}
use Rattle.uses.proofs.Due.{are_left, goes_on, none_left, no_first}
use Rattle.uses.specs.Leases.{ends_after, id_of, ids_after}
use Rattle.uses.proofs.leases.expire.Goals as goal

pub loop-turn-init : goal.loop-turn-init
loop-turn-init g c = (
  c.requires,
  λ ids ends h. record { others = ids; later = ends; both = h; same_ids = refl; same_ends = refl; fewer = omega arith },
)

pub loop-turn-preserved : goal.loop-turn-preserved
loop-turn-preserved g c = (
  c.forget-roots.ensures.left,
  λ ids ends h.
      let B = of_key {V = g.row.V.Denot} g.K.AsBytes.bytes in
      let l = c.loop-turn.invariant.1 ids ends h in
      let id = c.id_of.ensures ∙ ap id_of c.as_bytes.ensures in
      goes_on g.K.AsBytes.bytes c.args.now.now g.row.P ids ends c.in-Some.key l (c.in-Some.ensures.first l.others l.later l.both)
      (subst (λ b. HasBoth B g.row.P c.forget-roots.new.store c.forget-roots.result.by_id c.forget-roots.result.by_end (remove_key B b l.others) (without_first l.later)) id
      (c.forget-roots.ensures.forgotten l.others (without_first l.later) (c.in-Some.ensures.taken l.others l.later l.both))),
)

pub returns-in_default-clause-expired : goal.returns-in_default-clause-expired
returns-in_default-clause-expired g c ids ends h =
    let B = of_key {V = g.row.V.Denot} g.K.AsBytes.bytes in
    let l = c.loop-turn.invariant.1 ids ends h in
    let none = no_first _ (c.in_default.ensures.first l.others l.later l.both) in
    subst (λ s. HasBoth B g.row.P s c.loop-turn.roots.by_id c.loop-turn.roots.by_end (ids_after B c.args.now.now ids ends) (ends_after B c.args.now.now ends))
    (sym c.in_default.ensures.kept) (are_left g.K.AsBytes.bytes c.args.now.now g.row.P ids ends l none)

pub returns-clause-expired : goal.returns-clause-expired
returns-clause-expired g c ids ends h =
    let l = c.loop-turn.invariant.1 ids ends h in
    are_left g.K.AsBytes.bytes c.args.now.now g.row.P ids ends l
    (none_left g.K.AsBytes.bytes c.args.now.now g.row.P ids ends h l (omega arith))
