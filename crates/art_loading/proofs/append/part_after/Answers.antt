use Rattle.std.proofs.Common.{refl, get_or, inl, inr}
use Rattle.art_loading.proofs.Next.{next_from, why_before, why_related}
use Rattle.art_loading.proofs.append.part_after.Goals as goal
use Rattle.art_loading.proofs.append.part_after.Goals.{then-shared-last-via-then-shared-last, then-shared-last-via-else-shared-last+then-shared-key}

pub returns-clause-part : goal.returns-clause-part
returns-clause-part c =
    let shared = c.shared_after-shared.result in
    let byte = get_or c.args.key.now shared 0 in (
      byte,
      next_from c.args.last.now c.args.key.now shared _ byte c.shared_after-shared.ensures.shared c.if-shared-last.false c.if-shared-key.false refl refl
          c.if-old_byte-key.false,
    )

pub returns-then-shared-last-clause-reason : goal.returns-then-shared-last-clause-reason
returns-then-shared-last-clause-reason c =
    why_related c.args.last.now c.args.key.now c.shared_after-shared.result c.related_reason.result c.shared_after-shared.ensures.shared
    (elim c.then-shared-last.branch [
      | then-shared-last-via-then-shared-last w ↦ inl w.if-shared-last.true
      | then-shared-last-via-else-shared-last+then-shared-key w ↦ inr w.if-shared-key.true
    ])
    c.related_reason.ensures.equal c.related_reason.ensures.conflict

pub returns-then-old_byte-key-clause-reason : goal.returns-then-old_byte-key-clause-reason
returns-then-old_byte-key-clause-reason c =
    why_before c.args.last.now c.args.key.now c.shared_after-shared.result _ _ c.shared_after-shared.ensures.shared c.if-shared-last.false c.if-shared-key.false refl refl
    c.if-old_byte-key.true
