use Rattle.std.proofs.Common.{sym, subst, ◌++◌}
use Rattle.art_model.specs.Prelude.{ref_view, inner_name, Reaches, of_key, header_at}
use Rattle.art_checking.specs.Checked.{IsRead}
use Rattle.art_checking.proofs.Faulty.{passed_on}
use Rattle.art_checking.proofs.well_formed.check.read_prefix.Goals as goal

pub returns-clause-prefix : goal.returns-clause-prefix
returns-clause-prefix g c =
    let prefix = subst (λ place. IsRead (of_key g.K.AsBytes.bytes) g.row.P c.args.store.now place (place ++ c.in_ok-found.part.now) (inner_name c.args.name)
    (header_at c.args.name.kind (ref_view c.args.node))) c.deref.ensures.value c.in_ok-found.ensures.prefix in
    subst (λ read. IsRead (of_key g.K.AsBytes.bytes) g.row.P c.args.store.now c.args.place.now.items read (inner_name c.args.name)
    (header_at c.args.name.kind (ref_view c.args.node)))
    (sym c.in_ok-extend_from_slice.ensures.items) prefix

pub returns-clause-least : goal.returns-clause-least
returns-clause-least g c = c.in_ok-found.ensures.least

pub returns-in_err-found-clause-fault : goal.returns-in_err-found-clause-fault
returns-in_err-found-clause-fault g c =
    passed_on _ _ _ c.from_residual.ensures.1
    (λ root reach. c.in_err-found.ensures.fault root
    (subst (λ place. Reaches (of_key g.K.AsBytes.bytes) g.row.P c.args.store.now root place (inner_name c.args.name)) (sym c.deref.ensures.value) reach))
