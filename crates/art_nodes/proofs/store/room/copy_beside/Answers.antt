use Rattle.std.proofs.Common.{ap, ◌∙◌}
use Rattle.std.specs.Prelude.{count_by, is_some}
use Rattle.art_nodes.proofs.CopyLemmas.{slots_same}
use Rattle.art_nodes.proofs.store.room.copy_beside.Goals as goal

pub returns-clause-slots : goal.returns-clause-slots
returns-clause-slots g c =
    ap (λ s. s.slots) c.in_ok-reserve_exact.ensures.rest_kept
    ∙ slots_same g.T.Clone.is_clone c.requires.same c.args.slab.now.slots c.in_ok-copy.copy.slots c.in_ok-copy.ensures.cases.slots

pub returns-clause-len : goal.returns-clause-len
returns-clause-len g c = ap (count_by is_some) (returns-clause-slots g c)
