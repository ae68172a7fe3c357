use Rattle.std.proofs.Common.{◌≡◌, ◌≢◌, ℕ, Option, Some, None, if◌then◌else◌, sym, ap, ◌∙◌}
use Rattle.std.proofs.lemmas.Bool.{ne_eqb}
use Rattle.uses.specs.Inventory.{if_more}
use Rattle.uses.proofs.inventory.take.Goals as goal

-- some are left
some_left : {n : ℕ} → n ≢ 0 → ◌≡◌ {A = Option ℕ} (Some n) (if_more n)
some_left {n} more = ap (λ b. if b then None else Some n) (sym (ne_eqb n 0 more))

pub returns-then-left-eq0-clause-taken : goal.returns-then-left-eq0-clause-taken
returns-then-left-eq0-clause-taken c = (c.remove.ensures.gone ∙ ap if_more (sym c.if-left-eq0.true), c.remove.ensures.others)

pub returns-clause-taken : goal.returns-clause-taken
returns-clause-taken c = (c.in-Ok.ensures.found ∙ some_left c.if-left-eq0.false, c.in-Ok.ensures.others)
