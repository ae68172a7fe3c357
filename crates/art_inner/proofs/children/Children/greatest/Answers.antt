use Rattle.std.proofs.Common.{ℕ, ◌-◌, ◌++◌, [], length, sym, ap, subst, ◌∙◌, slice_get}
use Rattle.std.specs.List.{cons_option}
use Rattle.art_inner.specs.Inner.{Children, IsRising}
use Rattle.art_inner.specs.Spans.{part_left}
use Rattle.art_inner.specs.Rows.{rows_of}
use Rattle.art_inner.specs.Rests.{rest_list}
use Rattle.art_inner.proofs.Extent.{greatest_of, last_is, rest_rises}
use Rattle.art_inner.proofs.children.Children.greatest.Goals as goal

pub returns-in-Sorted-clause-greatest : goal.returns-in-Sorted-clause-greatest
returns-in-Sorted-clause-greatest c =
    let same = sym (ap rest_list c.in-Sorted.is) ∙ c.self.view_is in
    greatest_of c.args.self.now c.entry.result (subst IsRising c.self.view_is (rest_rises c.self.inside.rest c.self.invariant))
    (ap (λ (cs : Children). slice_get cs (length cs - 1)) (sym same)
    ∙ ap (λ (k : ℕ). slice_get (rows_of c.in-Sorted.rows) (k - 1)) (sym c.len.ensures.rows) ∙ c.entry.ensures.entry)

pub returns-in-Some-clause-last : goal.returns-in-Some-clause-last
returns-in-Some-clause-last c =
    let same = sym (ap rest_list c.in-Indexed.is) ∙ c.self.view_is in
    let gives = c.next_back_in.ensures.gives ∙ ap (λ o. part_left c.in-Indexed.table.now c.next_back_in.new.span ++ cons_option o []) c.in-Some.is in
    last_is c.args.self.now _ c.in-Some.last (sym same ∙ gives)

pub returns-in-Some-clause-greatest : goal.returns-in-Some-clause-greatest
returns-in-Some-clause-greatest c =
    greatest_of c.args.self.now c.in-Some.last (subst IsRising c.self.view_is (rest_rises c.self.inside.rest c.self.invariant)) (returns-in-Some-clause-last c)

pub returns-in-Some-next_back_in-clause-last : goal.returns-in-Some-next_back_in-clause-last
returns-in-Some-next_back_in-clause-last c =
    let same = sym (ap rest_list c.in-Direct.is) ∙ c.self.view_is in
    let gives = c.next_back_in-in-Direct.ensures.gives
    ∙ ap (λ o. part_left c.in-Direct.table.now c.next_back_in-in-Direct.new.span ++ cons_option o []) c.in-Some-next_back_in.is in
    last_is c.args.self.now _ c.in-Some-next_back_in.last (sym same ∙ gives)

pub returns-in-Some-next_back_in-clause-greatest : goal.returns-in-Some-next_back_in-clause-greatest
returns-in-Some-next_back_in-clause-greatest c =
    greatest_of c.args.self.now c.in-Some-next_back_in.last (subst IsRising c.self.view_is (rest_rises c.self.inside.rest c.self.invariant))
    (returns-in-Some-next_back_in-clause-last c)
