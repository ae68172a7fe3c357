use Rattle.std.proofs.Common.{◌≡◌, ◌+◌, ◌-◌, ℕ, min, take, drop, sym, ap, subst, ◌∙◌}
use Rattle.art_inner.specs.Inner.{Children, IsRising, bytes_below, children_between, count_below}
use Rattle.art_inner.specs.Rows.{rows_of}
use Rattle.art_inner.proofs.ChildrenLemmas.{IsRising-part, part_between}
use Rattle.art_inner.proofs.RowsLemmas.{rows-below}
use Rattle.art_inner.proofs.rows.Rows.between.Goals as goal

pub returns-clause-rising : goal.returns-clause-rising
returns-clause-rising c = subst IsRising (sym c.part.ensures.value) (IsRising-part _ _ _ c.requires.rising)

between_places : (first last start end : ℕ) (cs : Children) → IsRising cs → end ≡ count_below cs (last + 1) → start ≡ min (count_below cs first) end →
    take (end - start) (drop start cs) ≡ children_between first last cs
between_places first last start end cs rising is_end is_start =
    ap (λ (n : ℕ). take (end - n) (drop n cs)) is_start
    ∙ ap (λ (n : ℕ). take (n - min (count_below cs first) n) (drop (min (count_below cs first) n) cs)) is_end
    ∙ part_between first last cs rising

pub returns-clause-value : goal.returns-clause-value
returns-clause-value c =
    let lent = c.args.self.now in
    let counted : (b : ℕ) → bytes_below lent.bytes.now b ≡ count_below (rows_of lent) b = λ b. sym
    (rows-below lent.bytes.now lent.kinds.now lent.slots.now b c.requires.aligned.0 c.requires.aligned.1) in
    c.part.ensures.value
    ∙ between_places c.args.first c.args.last _ _ (rows_of lent) c.requires.rising
    (c.bytes_below-end.ensures.value ∙ counted (c.args.last + 1))
    (c.min-start.ensures ∙ ap (λ (n : ℕ). min n c.bytes_below-end.result) (c.bytes_below.ensures.value ∙ counted c.args.first))
