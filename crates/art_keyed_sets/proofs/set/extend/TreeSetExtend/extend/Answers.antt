use Rattle.std.proofs.Common.{rules}
use Rattle.art_keyed.proofs.Extends.{at_err, on_err}
use Rattle.art_keyed_sets.proofs.set.extend.TreeSetExtend.extend.Goals as goal

pub extend_by_ref-requires : goal.extend_by_ref-requires
extend_by_ref-requires g c =
    let ready = c.requires c.into_iter-rest.result c.into_iter-rest.ensures.into_iter_gives in
    (search rules, (ready.0, ready.1))

pub returns-in_err-extend_by_ref-clause-ran : goal.returns-in_err-extend_by_ref-clause-ran
returns-in_err-extend_by_ref-clause-ran g c =
    let (ks, (last, came, next), put, new) = c.in_err-extend_by_ref.ensures.refused in
    (c.into_iter-rest.result, ks, c.into_iter-rest.ensures.into_iter_gives, put, at_err _ c.from_residual.result c.from_residual.ensures.0 (λ error. (last, came)))

pub returns-in_err-extend_by_ref-clause-refused : goal.returns-in_err-extend_by_ref-clause-refused
returns-in_err-extend_by_ref-clause-refused g c =
    on_err c.from_residual.result (_, _, _, c.into_iter-rest.ensures.into_iter_gives, c.in_err-extend_by_ref.ensures.refused)

pub returns : goal.returns
returns g c =
    let (ks, (last, came, ended), put) = c.in_ok-extend_by_ref.ensures.all in
    record { ran = (c.into_iter-rest.result, ks, c.into_iter-rest.ensures.into_iter_gives, put, (c.extend_by_ref.new.keys, (last, came, ended))); refused = tt }
