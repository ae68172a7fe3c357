use Rattle.std.proofs.Common.{sym, ap, ◌∙◌}
use Rattle.art_inner.specs.Inner.{child_at}
use Rattle.art_inner.proofs.ChildrenLaws.{remove_child-absent}
use Rattle.art_inner.proofs.table.TableChildTable.remove.Goals as goal

pub returns-in-Err-clause-rest : goal.returns-in-Err-clause-rest
returns-in-Err-clause-rest g c = sym (remove_child-absent _ _ (ap (λ cs. child_at cs c.args.byte) (sym c.rows.ensures.value) ∙ c.in-Err.ensures.absent))
