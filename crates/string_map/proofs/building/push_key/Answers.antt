use Rattle.std.proofs.Common.{◌≡◌, sym, ◌∙◌, arith}
use Rattle.string_map.specs.Building.{not_after}
use Rattle.string_map.specs.Calls.{no_memory}
use Rattle.string_map.proofs.NotAfter.{not_after_last}
use Rattle.string_map.proofs.building.push_key.Goals as goal

pub returns-in-Err-clause-order : goal.returns-in-Err-clause-order
returns-in-Err-clause-order c = λ is.
    not_after_last c.args.pairs.now c.args.key c.in-Err.error.reason c.in-Err.ensures.error.2
    (λ memory. let e : no_memory ≡ not_after = sym (c.code_of_reason.ensures.memory memory) ∙ is in omega arith)
    c.in-Err.ensures.no_conflict
