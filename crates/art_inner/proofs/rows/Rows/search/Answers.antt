use Rattle.std.proofs.Common.{◌≡◌, Bool, true, false, is_some, ap, ◌∙◌}
use Rattle.art_parts.specs.declared.names.NodeType.TheVariants.{Node4}
use Rattle.art_inner.specs.Rows.{rows_of}
use Rattle.art_inner.proofs.RowsLemmas.{rows-below, rows-get, rows-not_at, child_in_place}
use Rattle.art_inner.proofs.rows.Rows.search.Goals as goal

pub returns-then-is_at-clause-found : goal.returns-then-is_at-clause-found
returns-then-is_at-clause-found c =
    let lent = c.args.self.now in
    let stands = c.is_at.ensures.0 c.if-is_at.true in
    ap is_some (child_in_place (rows_of lent) _ c.args.byte _ c.requires.rising
    (rows-get _ lent.bytes.now lent.kinds.now lent.slots.now 0 Node4 0 c.requires.aligned.0 c.requires.aligned.1 stands.0) stands.1)

not_both : (b : Bool) → b ≡ true → b ≡ false → ⊥
not_both b is_true is_false = cc

pub returns-else-is_at-clause-absent : goal.returns-else-is_at-clause-absent
returns-else-is_at-clause-absent c =
    let lent = c.args.self.now in
    rows-not_at lent.bytes.now lent.kinds.now lent.slots.now _ c.args.byte c.requires.aligned.0 c.requires.aligned.1 c.requires.rising
    (c.count_below-at.ensures ∙ rows-below lent.bytes.now lent.kinds.now lent.slots.now c.args.byte c.requires.aligned.0 c.requires.aligned.1)
    (λ within same. not_both _ (c.is_at.ensures.1 (within, same)) c.if-is_at.false)
