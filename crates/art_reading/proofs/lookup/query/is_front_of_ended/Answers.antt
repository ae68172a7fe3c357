use Rattle.std.proofs.Common.{[], ◌∷◌, ◌++◌, ap, append_assoc, ◌∙◌}
use Rattle.art_reading.proofs.Endings.{else_whole}
use Rattle.art_reading.proofs.lookup.query.is_front_of_ended.Goals as goal

pub returns-then-begins_with : goal.returns-then-begins_with
returns-then-begins_with c = (
  λ begins.
      let (r, f) = c.begins_with.ensures.0 begins in
      (r ++ c.args.end ∷ [], ap (λ z. z ++ c.args.end ∷ []) f ∙ append_assoc c.args.bytes.now r (c.args.end ∷ [])),
  λ front. c.if-begins_with.true,
)

pub returns-else-begins_with : goal.returns-else-begins_with
returns-else-begins_with c = else_whole c.args.bytes.now c.args.text.now c.args.end c.if-begins_with.false c.begins_with.ensures c.is_ended.ensures
