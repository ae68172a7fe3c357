use Rattle.std.proofs.Common.{◌≡◌, ◌+◌, length, ap, ◌∙◌, suc, arith, rules}
use Rattle.std.proofs.lemmas.List.Sums.{sum_by-cons}
use Rattle.uses.specs.Inventory.{total_of}
use Rattle.uses.proofs.inventory.total.Goals as goal

pub overflow_add-total : goal.overflow_add-total
overflow_add-total c =
    let e : length c.loop-count.count-iterator ≡ suc (length c.next.new.self) = ap length c.in-Some.ensures.steps in
    omega arith

pub loop-count-preserved : goal.loop-count-preserved
loop-count-preserved c =
    let e : length c.loop-count.count-iterator ≡ suc (length c.next.new.self) = ap length c.in-Some.ensures.steps in
    let t : total_of c.loop-count.count-iterator ≡ c.in-Some.count.now + total_of c.next.new.self =
    ap total_of c.in-Some.ensures.steps ∙ sum_by-cons (λ good. good.1) (c.in-Some.field-0-0.now, c.in-Some.count.now) c.next.new.self in
    record { can = search rules; finite = search rules; counted = omega arith; room = omega arith }
